-- What the fields of a release with n can hold: the ranges of its tail. Every release that a run reaches is in range, first records are
-- write-once, and a recorded decision never changes. Proved in proofs/Reached.antt. Assumes nothing.
use Rattle.std.specs.Prelude.{◌≡◌, ◌≢◌, true, List, ◌++◌, ℕ, ◌≤◌, ◌<◌, get_or}
use Rattle.kind.specs.Step.{AllInRange}
use Rattle.mask.specs.Mask.{within, full}
use Rattle.store.specs.Log.{empty, is_allowed}
use Rattle.participant.specs.Participant
use Rattle.coordinator.specs.Coordinator
use Rattle.rules.specs.State.{participant_of, log_of, first_of, last_of, mask_of, fresh}
use Rattle.rules.specs.Run.{after}
use Rattle.rules.specs.Types.{None, Abort, Commit, Message, Waiting, Release, Step}

-- the fields of the tail, zeros beyond n
pub record ReleaseInRange (r : Release) : Type 0 where
  pub positive : 1 ≤ r.n
  pub votes : within r.n r.votes ≡ true
  pub coordinator : Coordinator.in_range (full r.n) r.coordinator ≡ true
  pub messages : (m : Message) → within r.n (mask_of r m) ≡ true
  pub participants : (i : ℕ) → i < r.n → Participant.in_range (full r.n) i (participant_of r i) ≡ true
  pub logs : (j : ℕ) → j < r.n → is_allowed (log_of r j) ≡ true
  pub participants_beyond : (i : ℕ) → r.n ≤ i → participant_of r i ≡ Waiting
  pub logs_beyond : (j : ℕ) → r.n ≤ j → log_of r j ≡ empty
  pub calls_beyond : (p : ℕ) → r.n < p → get_or r.calls p 0 ≡ 0

abbrev pub ReachedInRange : Type 0
ReachedInRange =
    (places n votes : ℕ) → 1 ≤ n → n ≤ places → within n votes ≡ true → (steps : List Step) → AllInRange n steps → ReleaseInRange (after (fresh places n votes) steps)

-- from r to a later t: first records are write-once, and a recorded decision never changes
pub record LogsKept (r t : Release) : Type 0 where
  pub first : (j : ℕ) → j < r.n → first_of r j ≢ None → first_of t j ≡ first_of r j
  pub commit : (j : ℕ) → j < r.n → last_of r j ≡ Commit → last_of t j ≡ Commit
  pub abort : (j : ℕ) → j < r.n → last_of r j ≡ Abort → last_of t j ≡ Abort

abbrev pub ReachedKept : Type 0
ReachedKept =
    (places n votes : ℕ) → n ≤ places → (xs ys : List Step) → AllInRange n (xs ++ ys)
    → LogsKept (after (fresh places n votes) xs) (after (fresh places n votes) (xs ++ ys))
