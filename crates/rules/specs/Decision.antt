-- A decision delivered to a participant, as request 2026-02 amends document 01: where it leads, what the step reports, and that one answered call is
-- left then, which records it. Proved in proofs/Decision.antt. Assumes nothing.
use Rattle.std.specs.Prelude.{◌≡◌, ◌⊎◌, true, List, ◌∷◌, ◌++◌, ℕ, suc, ◌≤◌, ◌<◌, length}
use Rattle.kind.specs.Step.{AllInRange}
use Rattle.participant.specs.Decision.{TakesDecision, DecisionLeads}
use Rattle.rules.specs.State.{participant_of, in_flight, fresh}
use Rattle.rules.specs.Report.{step_byte}
use Rattle.rules.specs.Step.{with_participant, step}
use Rattle.rules.specs.Run.{after}
use Rattle.rules.specs.Demand.{Recorded, answered, AllUndisturbed}
use Rattle.rules.specs.Types.{LogRecord, Message, Decision, Uncertain, Terminating, DoneCommit, DoneAbort, Release, Step, Deliver, Copy}

-- the message of a decision, and the byte that reports it
abbrev pub decision_message : Decision → Message
decision_message Decision.Commit = Message.Commit
decision_message Decision.Abort = Message.Abort

abbrev pub decision_byte : Decision → ℕ
decision_byte Decision.Commit = 2
decision_byte Decision.Abort = 3

-- step s delivers d, or a copy of it, to participant i
pub record DeliversDecision (r : Release) (s : Step) (d : Decision) (i : ℕ) : Type 0 where
  pub delivery : (s ≡ Deliver (decision_message d) (suc i)) ⊎ (s ≡ Copy (decision_message d) (suc i))
  pub is_in_flight : in_flight r (decision_message d) i ≡ true

pub record DecisionDelivered (r : Release) (s : Step) (d : Decision) (i : ℕ) : Type 0 where
  -- in 3 or 4: to 5 or 6, and the heard mask is gone; in any other state no effect
  pub leads : DecisionLeads d (participant_of r i) (participant_of (step r s).next i)
  -- in 3 or 4 the step reports the decision, in any other state moved
  pub reported : TakesDecision (participant_of r i) → step_byte (step r s) ≡ decision_byte d
  pub unreported : (TakesDecision (participant_of r i) → ⊥) → step_byte (step r s) ≡ 1
  -- in 4 it is like one in 3: with the participant in 3, the same report and the same next release
  pub like_in_3 : (h : ℕ) → participant_of r i ≡ Terminating h → step r s ≡ step (with_participant i Uncertain r) s

-- for every release with room for participant i
abbrev pub DeliveredAsWritten : Type 0
DeliveredAsWritten = (r : Release) (s : Step) (d : Decision) (i : ℕ) → i < length r.sites → DeliversDecision r s d i → DecisionDelivered r s d i

-- participant i holds a record of that decision
abbrev pub HoldsDecision : Decision → Release → ℕ → Type 0
HoldsDecision Decision.Commit r i = Recorded r i DoneCommit LogRecord.Commit
HoldsDecision Decision.Abort r i = Recorded r i DoneAbort LogRecord.Abort

-- Under the demand's conditions on it, a participant that takes decision d by s holds a record of d after one answered call of its own
abbrev pub OneCallLeft : Release → Step → Decision → List Step → ℕ → Type 0
OneCallLeft r s d ys i = AllUndisturbed i (step r s).next ys → 1 ≤ answered i (step r s).next ys → HoldsDecision d (after (step r s).next ys) i

abbrev pub HeldAfterOneCall : Type 0
HeldAfterOneCall =
    (places n votes : ℕ) → n ≤ places → (xs : List Step) (s : Step) (ys : List Step) → AllInRange n (xs ++ (s ∷ ys)) → (d : Decision) (i : ℕ) → i < n
    → DeliversDecision (after (fresh places n votes) xs) s d i → TakesDecision (participant_of (after (fresh places n votes) xs) i)
    → OneCallLeft (after (fresh places n votes) xs) s d ys i
