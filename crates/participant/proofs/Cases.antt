-- The table of a participant's rules holds: it is computed. Assumes nothing.
use mathlib.Core.Path.{refl}
use Rattle.participant.specs.Cases.{CasesHold}

pub cases_hold : CasesHold
cases_hold = record { transitions = refl; pending_calls = refl }
