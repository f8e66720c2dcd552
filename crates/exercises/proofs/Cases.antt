-- The worked sheets of specs/Cases.antt, by computation. Assumes nothing.
use mathlib.Core.Path.{refl}
use mathlib.Core.List.{flatten}
use Rattle.number.specs.Table.{tabulate}
use Rattle.rules.specs.Step.{participant_to, coordinator_to, participant_calls, coordinator_calls}
use Rattle.exercises.specs.Sheet.{due_lists}
use Rattle.exercises.specs.Cases.{CasesHold}

pub cases_hold : CasesHold
unfolding flatten tabulate due_lists participant_to coordinator_to participant_calls coordinator_calls
cases_hold = record { as_written = refl; refusals = refl; one_site = refl; two_sites = refl; one_site_bytes = refl; two_sites_bytes = refl }
