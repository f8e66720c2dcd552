-- What a decision delivered to a participant does, by document 01's numbers, as request 2026-02 amends it. Proved in proofs/Decision.antt. Assumes
-- nothing.
use Rattle.std.specs.Prelude.{◌≡◌, ◌⊎◌, ℕ}
use Rattle.participant.specs.Types.{Decision, Participant}
use Rattle.participant.specs.Participant.{state_number, heard_of, on_decision}

-- in 3, and since request 2026-02 in 4
abbrev pub TakesDecision : Participant → Type 0
TakesDecision p = (state_number p ≡ 3) ⊎ (state_number p ≡ 4)

-- to 5 for a commit, to 6 for an abort
abbrev pub recording_number : Decision → ℕ
recording_number Decision.Commit = 5
recording_number Decision.Abort = 6

-- from p to q
pub record DecisionLeads (d : Decision) (p q : Participant) : Type 0 where
  -- a decision in 3 or 4: to 5 or 6, and the heard mask is gone
  pub state : TakesDecision p → state_number q ≡ recording_number d
  pub heard : TakesDecision p → heard_of q ≡ 0
  -- in any other state it has no effect
  pub no_effect : (TakesDecision p → ⊥) → q ≡ p

abbrev pub DecisionAsWritten : Type 0
DecisionAsWritten = (d : Decision) (p : Participant) → DecisionLeads d p (on_decision d p)
