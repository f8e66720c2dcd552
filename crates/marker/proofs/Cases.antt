-- Document 01's cases P1 to P13 come out of the rules as they must: the table of specs/Cases.antt, by computation. Assumes nothing.
use mathlib.Core.Path.{refl}
use Rattle.schedule.specs.Schedule.{steps_from}
use Rattle.rules.specs.Step.{participant_to, coordinator_to, participant_calls, coordinator_calls}
use Rattle.marker.specs.Cases.{CasesHold}

pub cases_hold : CasesHold
unfolding steps_from participant_to coordinator_to participant_calls coordinator_calls
cases_hold = (refl, (refl, (refl, (refl, (refl, (refl, (refl, (refl, (refl, (refl, (refl, (refl, (refl, tt)))))))))))))
