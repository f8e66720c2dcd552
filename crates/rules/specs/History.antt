-- What a run of the rules shows to somebody who knows no protocol, and the theorem: demand 3 gives atomic commitment. Proved in
-- proofs/History.antt. Assumes nothing.
use Rattle.std.specs.Prelude.{◌≡◌, ◌⊎◌, true, cond, List, [], ◌∷◌, ◌++◌, ℕ, ◌+◌, ◌≤◌}
use Rattle.kind.specs.Step.{AllInRange}
use Rattle.mask.specs.Mask.{has, within}
use Rattle.rules.specs.State.{first_of, fresh}
use Rattle.rules.specs.Report.{moves}
use Rattle.rules.specs.OneParty.{party_of}
use Rattle.rules.specs.Run.{outcomes, after}
use Rattle.rules.specs.Commitment.{Event, Decided, TimedOut, Restarted, AtomicCommitment}
use Rattle.rules.specs.Demand.{Up, answered, AllUndisturbed, Ready, DemandHolds}
use Rattle.rules.specs.Types.{Yes, Decision, Release, Step, Start, Deliver, Copy, Lose, Timeout, Crash, Restart, Outcome}

-- The history of a run: from its steps and what they report, and from no state of a party

-- a step that reports commit or abort is a decision of its party: of the one that comes to know it (`ReportedAsWritten`)
abbrev pub decision : ℕ → Outcome → List Event
decision p Outcome.Idle = []
decision p Outcome.Moved = []
decision p Outcome.Commit = Decided p Decision.Commit ∷ []
decision p Outcome.Abort = Decided p Decision.Abort ∷ []

abbrev pub timeout_or_restart : Step → List Event
timeout_or_restart Start = []
timeout_or_restart (Deliver m p) = []
timeout_or_restart (Copy m p) = []
timeout_or_restart (Lose m p) = []
timeout_or_restart (Step.Call p q) = []
timeout_or_restart (Step.CallLost p q) = []
timeout_or_restart (Timeout p) = TimedOut p ∷ []
timeout_or_restart (Crash p) = []
timeout_or_restart (Restart p) = Restarted p ∷ []

-- a timeout or restart counts only where it is due, and reported so
abbrev pub history : List Step → List Outcome → List Event
history [] os = []
history (s ∷ ss) [] = []
history (s ∷ ss) (o ∷ os) = cond (moves o) (timeout_or_restart s) [] ++ (decision (party_of s) o ++ history ss os)

-- Participant i keeps going when it is up at some point, from there on never crashes and has no timeout while its termination runs, and does all that it
-- can: n + 1 of its own calls are answered, or in the end no timeout and no call of its own is due
pub record KeepsGoing (r : Release) (steps : List Step) (i : ℕ) : Type 0 where
  pub before : List Step
  pub later : List Step
  pub split : steps ≡ before ++ later
  pub up : Up (after r before) i
  pub undisturbed : AllUndisturbed i (after r before) later
  pub all_done : (r.n + 1 ≤ answered i (after r before) later) ⊎ (Ready (after r steps) i → ⊥)

-- every list of steps, under any n and votes that a header may carry
abbrev pub CommitmentHolds : Type 0
CommitmentHolds =
    (places n votes : ℕ) → n ≤ places → within n votes ≡ true → (steps : List Step) → AllInRange n steps
    → AtomicCommitment n (λ i. has i votes) (KeepsGoing (fresh places n votes) steps) (history steps (outcomes (fresh places n votes) steps))

-- Demand 3 speaks of the logs. A log's first record is yes only by a yes vote of its participant
abbrev pub YesByVote : Type 0
YesByVote =
    (places n votes : ℕ) (steps : List Step) (i : ℕ) → first_of (after (fresh places n votes) steps) i ≡ Yes → has i votes ≡ true

-- so demand 3 gives atomic commitment
abbrev pub DemandGives : Type 0
DemandGives = YesByVote → DemandHolds → CommitmentHolds
