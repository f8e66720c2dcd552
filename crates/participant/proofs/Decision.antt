-- A decision does to a participant what is written. Assumes nothing.
use mathlib.Core.Path.{◌≡◌, refl}
use mathlib.Core.Logic.{◌⊎◌, inl, inr}
use Prim.Native.Nat.{ℕ, ◌<◌}
use native.Mathlib.Omega.{arith}
use lib.Dec.{lit≤}
use Rattle.participant.specs.Types.{Decision, Participant, Waiting, VotingYes, Closing, Uncertain, Terminating, RecordingCommit, RecordingAbort, DoneCommit, DoneAbort, Down}
use Rattle.participant.specs.Participant.{recording}
use Rattle.participant.specs.Decision.{TakesDecision, DecisionLeads, DecisionAsWritten}

below : (k : ℕ) → k < 3 → (k ≡ 3) ⊎ (k ≡ 4) → ⊥
below k l (inl e) = omega arith
below k l (inr e) = omega arith

beyond : (k : ℕ) → 4 < k → (k ≡ 3) ⊎ (k ≡ 4) → ⊥
beyond k l (inl e) = omega arith
beyond k l (inr e) = omega arith

module _ (p : Participant) where
  taken : (d : Decision) → TakesDecision p → DecisionLeads d p (recording d)
  taken Decision.Commit t = record { state = λ u. refl; heard = λ u. refl; no_effect = λ n. absurd (n t) }
  taken Decision.Abort t = record { state = λ u. refl; heard = λ u. refl; no_effect = λ n. absurd (n t) }

  stays : (d : Decision) → (TakesDecision p → ⊥) → DecisionLeads d p p
  stays d n = record { state = λ t. absurd (n t); heard = λ t. absurd (n t); no_effect = λ m. refl }

pub decision_as_written : DecisionAsWritten
decision_as_written d Waiting = stays Waiting d (below 0 (lit≤ tt))
decision_as_written d VotingYes = stays VotingYes d (below 1 (lit≤ tt))
decision_as_written d Closing = stays Closing d (below 2 (lit≤ tt))
decision_as_written d Uncertain = taken Uncertain d (inl refl)
decision_as_written d (Terminating h) = taken (Terminating h) d (inr refl)
decision_as_written d RecordingCommit = stays RecordingCommit d (beyond 5 (lit≤ tt))
decision_as_written d RecordingAbort = stays RecordingAbort d (beyond 6 (lit≤ tt))
decision_as_written d DoneCommit = stays DoneCommit d (beyond 7 (lit≤ tt))
decision_as_written d DoneAbort = stays DoneAbort d (beyond 8 (lit≤ tt))
decision_as_written d Down = stays Down d (beyond 9 (lit≤ tt))
