-- Demand 3: what is claimed of every list of steps from a fresh release, wherever it is cut. Document 01, "Whole lists and cuts".
-- Participant i is the one at place i, whose number is i + 1. Proved in proofs/Demand.antt. Assumes nothing.
use Rattle.std.specs.Prelude.{◌≡◌, ◌≢◌, ◌⊎◌, Bool, true, false, cond, ◌&&◌, ℕ, suc, ◌+◌, ◌≤◌, ◌<◌, eqb, length}
use mathlib.Core.List.{List, [], ◌∷◌, ◌++◌, Memᴰ}
use Rattle.kind.specs.Step.{AllInRange}
use Rattle.mask.specs.Mask.{full}
use Rattle.rules.specs.State.{participant_of, first_of, last_of, fresh}
use Rattle.rules.specs.Step.{step, is_due}
use Rattle.rules.specs.Run.{outcomes, after}
use Rattle.rules.specs.Types.{LogRecord, Yes, Abort, Commit, Participant, Terminating, DoneCommit, DoneAbort, Down, Coordinator, Release, Step, Start, Deliver, Copy, Lose, Timeout, Crash, Restart, Outcome}

-- reported decisions, and what the logs say: `first j` is the first record of log j

abbrev pub Reported : Outcome → Release → List Step → Type 0
Reported o r steps = Memᴰ o (outcomes r steps)

pub record EveryYes (n : ℕ) (first : ℕ → LogRecord) : Type 0 where
  pub each : (j : ℕ) → j < n → first j ≡ Yes

pub record SomeAbort (n : ℕ) (first : ℕ → LogRecord) : Type 0 where
  pub at : ℕ
  pub below : at < n
  pub aborted : first at ≡ Abort

-- A participant is up outside state 9; its termination runs in state 4

abbrev pub Up : Release → ℕ → Type 0
Up r i = participant_of r i ≢ Down

-- It holds a recorded decision when it is in 7 with commit, or in 8 with abort, as the last record of its own log

pub record Recorded (r : Release) (i : ℕ) (p : Participant) (d : LogRecord) : Type 0 where
  pub state : participant_of r i ≡ p
  pub last : last_of r i ≡ d

abbrev pub Holds : Release → ℕ → Type 0
Holds r i = Recorded r i DoneCommit Commit ⊎ Recorded r i DoneAbort Abort

-- An answered call of its own is a due step of kind 06 with that party

abbrev pub is_call_of : ℕ → Step → Bool
is_call_of i Start = false
is_call_of i (Deliver m p) = false
is_call_of i (Copy m p) = false
is_call_of i (Lose m p) = false
is_call_of i (Step.Call p q) = eqb p (suc i)
is_call_of i (Step.CallLost p q) = false
is_call_of i (Timeout p) = false
is_call_of i (Crash p) = false
is_call_of i (Restart p) = false

abbrev pub answered : ℕ → Release → List Step → ℕ
answered i r [] = 0
answered i r (s ∷ ss) = cond (is_call_of i s && is_due r s) 1 0 + answered i (step r s).next ss

-- the demand's conditions on participant i: no due crash of it, and no due timeout of it while its termination runs

pub record Undisturbed (i : ℕ) (r : Release) (s : Step) : Type 0 where
  pub crash : s ≡ Crash (suc i) → is_due r s ≡ false
  pub timeout : (h : ℕ) → s ≡ Timeout (suc i) → participant_of r i ≡ Terminating h → is_due r s ≡ false

abbrev pub AllUndisturbed : ℕ → Release → List Step → Type 0
AllUndisturbed i r [] = Unit {0}
AllUndisturbed i r (s ∷ ss) = Undisturbed i r s × AllUndisturbed i (step r s).next ss

-- a timeout of it is due, or a call of it on one of the logs 1 to n

abbrev pub Ready : Release → ℕ → Type 0
Ready r i = (is_due r (Timeout (suc i)) ≡ true) ⊎ ((j : ℕ) × (j < r.n) × (is_due r (Step.Call (suc i) (suc j)) ≡ true))

-- participant i, up in r and undisturbed from there on, after ys and, later, after zs
pub record Decides (r : Release) (i : ℕ) (ys zs : List Step) : Type 0 where
  -- wherever it holds none yet, at most n of its calls have been answered, and a timeout or a call of its own is due
  pub until : (Holds (after r ys) i → ⊥) → (answered i r ys ≤ r.n) × Ready (after r ys) i
  -- so it holds one after at most n + 1
  pub within : r.n + 1 ≤ answered i r ys → Holds (after r ys) i
  -- a decision once held stays held to the end of the list
  pub kept : Holds (after r ys) i → Holds (after (after r ys) zs) i

-- what is claimed of a list of steps from a release
pub record Claims (r : Release) (steps : List Step) : Type 0 where
  -- no two reported decisions differ
  pub agree : Reported Outcome.Commit r steps → Reported Outcome.Abort r steps → ⊥
  -- a commit is reported only when the first record of every participant's log is a yes, looked at after that step,
  pub commit_backed : (xs : List Step) (s : Step) (ys : List Step) → steps ≡ xs ++ (s ∷ ys) → (step (after r xs) s).outcome ≡ Outcome.Commit
      → EveryYes r.n (first_of (step (after r xs) s).next)
  -- and an abort only when some log's first record is an abort
  pub abort_backed : (xs : List Step) (s : Step) (ys : List Step) → steps ≡ xs ++ (s ∷ ys) → (step (after r xs) s).outcome ≡ Outcome.Abort
      → SomeAbort r.n (first_of (step (after r xs) s).next)
  -- a participant that is up after xs, and undisturbed from there on, comes to hold a recorded decision
  pub decides : (i : ℕ) → i < r.n → (xs ys zs : List Step) → steps ≡ xs ++ (ys ++ zs) → Up (after r xs) i
      → AllUndisturbed i (after r xs) (ys ++ zs) → Decides (after r xs) i ys zs

-- no due timeout and no due restart, of any party
pub record Calm (r : Release) (s : Step) : Type 0 where
  pub timeout : (p : ℕ) → s ≡ Timeout p → is_due r s ≡ false
  pub restart : (p : ℕ) → s ≡ Restart p → is_due r s ≡ false

abbrev pub AllCalm : Release → List Step → Type 0
AllCalm r [] = Unit {0}
AllCalm r (s ∷ ss) = Calm r s × AllCalm (step r s).next ss

pub record Demand (places n votes : ℕ) (steps : List Step) : Type 0 where
  pub claims : Claims (fresh places n votes) steps
  -- with all votes yes and no timeout or restart, no abort is ever reported, whoever crashes
  pub no_abort : votes ≡ full n → AllCalm (fresh places n votes) steps → Reported Outcome.Abort (fresh places n votes) steps → ⊥

-- Demand 3, for any number of places, any n that they have room for and any votes
abbrev pub DemandHolds : Type 0
DemandHolds = (places n votes : ℕ) → n ≤ places → (steps : List Step) → AllInRange n steps → Demand places n votes steps

-- The same in the words of the demand: a part before, any parties crashing there, and whatever follows are one list

abbrev pub crashes : List ℕ → List Step
crashes [] = []
crashes (p ∷ ps) = Crash p ∷ crashes ps

abbrev pub AllParties : ℕ → List ℕ → Type 0
AllParties n [] = Unit {0}
AllParties n (p ∷ ps) = (p ≤ n) × AllParties n ps

abbrev pub CutHolds : Type 0
CutHolds =
    (places n votes : ℕ) → n ≤ places → (before : List Step) (crashed : List ℕ) (rest : List Step) → AllInRange n before → AllParties n crashed
    → AllInRange n rest → Demand places n votes (before ++ (crashes crashed ++ rest))

-- At the cut n, the votes, every log, every count and every message in flight stand as the last step left them; the parties named are down, the others
-- keep their states

pub record Cut (r : Release) (crashed : List ℕ) (t : Release) : Type 0 where
  pub same_n : t.n ≡ r.n
  pub same_votes : t.votes ≡ r.votes
  pub logs : t.store ≡ r.store
  pub counts : t.calls ≡ r.calls
  pub messages : t.messages ≡ r.messages
  pub coordinator_down : Memᴰ 0 crashed → t.coordinator ≡ Coordinator.Down
  pub coordinator_kept : (Memᴰ 0 crashed → ⊥) → t.coordinator ≡ r.coordinator
  pub down : (i : ℕ) → i < r.n → Memᴰ (suc i) crashed → participant_of t i ≡ Down
  pub kept : (i : ℕ) → (Memᴰ (suc i) crashed → ⊥) → participant_of t i ≡ participant_of r i

abbrev pub CutStands : Type 0
CutStands = (r : Release) (crashed : List ℕ) → AllParties r.n crashed → r.n ≤ length r.sites → Cut r crashed (after r (crashes crashed))
