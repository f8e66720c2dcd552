-- The table of worked class files, by computation. Assumes nothing.
use mathlib.Core.Path.{refl}
use Rattle.number.specs.Table.{tabulate}
use Rattle.text.specs.Put.{each}
use Rattle.schedule.specs.Schedule.{steps_from}
use Rattle.rules.specs.Step.{participant_to, coordinator_to, participant_calls, coordinator_calls}
use Rattle.parts.specs.Parts.{rest_length, parts_up_to}
use Rattle.figures.specs.Class.{read_parts}
use Rattle.figures.specs.Sums.{sum, largest, first_place}
use Rattle.figures.specs.Figures.{said_in}
use Rattle.figures.specs.Cases.{CasesHold, CasesHand}

pub cases_hold : CasesHold
unfolding tabulate each steps_from participant_to coordinator_to participant_calls coordinator_calls rest_length parts_up_to read_parts sum largest first_place said_in
cases_hold = refl

pub cases_hand : CasesHand
unfolding tabulate each steps_from participant_to coordinator_to participant_calls coordinator_calls rest_length parts_up_to read_parts sum largest first_place said_in
cases_hand = refl
