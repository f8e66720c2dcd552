-- A participant that takes a decision is recording it. Assumes nothing.
use mathlib.Core.Path.{◌≡◌, refl, ◌∙◌}
use Rattle.participant.specs.Types.{Decision, Participant}
use Rattle.participant.specs.Participant.{of_numbers, recording, on_decision}
use Rattle.participant.specs.Decision.{TakesDecision, recording_number, DecisionLeads}
use Rattle.participant.proofs.Numbers.{by_numbers}
use Rattle.participant.proofs.Decision.{decision_as_written}

-- in 3 or 4
pub takes_decision : (d : Decision) (p : Participant) → TakesDecision p → on_decision d p ≡ recording d
takes_decision d p t = by_numbers (on_decision d p) (recording_number d) 0 (leads.state t) (leads.heard t) ∙ recorded d
  where
    leads : DecisionLeads d p (on_decision d p)
    leads = decision_as_written d p

    recorded : (d : Decision) → of_numbers (recording_number d) 0 ≡ recording d
    recorded Decision.Commit = refl
    recorded Decision.Abort = refl
