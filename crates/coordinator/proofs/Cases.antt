-- The table of the coordinator's rules holds: it is computed. Assumes nothing.
use mathlib.Core.Path.{refl}
use Rattle.coordinator.specs.Cases.{CasesHold}

pub cases_hold : CasesHold
cases_hold = record { transitions = refl; pending_calls = refl }
