-- Demand 3 and atomic commitment about the marker's own bytes, their word `closed`, and the counts of the tail: for every schedule that the run accepts,
-- over what it leaves in the lent report. Participant i is the one at place i. Proved in proofs/Demand.antt, proofs/Closed.antt and proofs/Counts.antt.
-- Assumes nothing.
use Rattle.std.specs.Prelude.{◌≡◌, ◌↔◌, ◌≢◌, true, List, ◌++◌, map, ℕ, suc, ◌+◌, ◌≤◌, ◌<◌, length, get_or, take, Ok}
use Rattle.mask.specs.Mask.{has, full}
use Rattle.store.specs.Log.{places}
use Rattle.kind.specs.Step.{AllInRange}
use Rattle.schedule.specs.Record.{header_in_range, longest}
use Rattle.schedule.specs.Schedule.{Accepted, read_schedule, schedule_bytes}
use Rattle.rules.specs.State.{first_of}
use Rattle.rules.specs.Report.{outcome_in, closed_in}
use Rattle.rules.specs.Run.{after, calls_made}
use Rattle.rules.specs.Closed.{ClosesAnother}
use Rattle.rules.specs.Demand.{EveryYes, SomeAbort, Up, AllUndisturbed, Decides, AllCalm}
use Rattle.rules.specs.Commitment.{AtomicCommitment}
use Rattle.rules.specs.History.{KeepsGoing, history}
use Rattle.passes.specs.Pass.{fresh_of, step_bytes}
use Rattle.marker.specs.Types.{Step, Header, Outcome}
use Rattle.form.specs.Form.{form_of, count_at}
use Rattle.marker.specs.Report.{tail_size, steps_left, tail_left}
use Rattle.marker.specs.Run.{run_answers, run_leaves}

-- A decision is reported by a step whose byte says commit or abort
abbrev pub Says : Outcome → ℕ → Type 0
Says o b = outcome_in b ≡ o

-- `bytes` are the report's step bytes; the logs are looked at after that step
pub record BytesHold (h : Header) (steps : List Step) (bytes : List ℕ) : Type 0 where
  -- the list's reported outcomes
  pub reported : bytes ≡ step_bytes (fresh_of h) steps
  -- no two reported decisions differ
  pub agree : (i j : ℕ) → i < length bytes → j < length bytes → Says Outcome.Commit (get_or bytes i 0) → Says Outcome.Abort (get_or bytes j 0) → ⊥
  -- a commit is reported only when the first record of every participant's log is a yes, and an abort only when some log's is an abort
  pub commit_backed : (i : ℕ) → i < length bytes → Says Outcome.Commit (get_or bytes i 0) → EveryYes h.n (first_of (after (fresh_of h) (take (suc i) steps)))
  pub abort_backed : (i : ℕ) → i < length bytes → Says Outcome.Abort (get_or bytes i 0) → SomeAbort h.n (first_of (after (fresh_of h) (take (suc i) steps)))
  -- a participant that is up after xs, and undisturbed from there on, comes to hold a recorded decision within n + 1 of its answered calls, keeps
  -- it, and until then a timeout or a call of its own is due
  pub decides : (i : ℕ) → i < h.n → (xs ys zs : List Step) → steps ≡ xs ++ (ys ++ zs) → Up (after (fresh_of h) xs) i
      → AllUndisturbed i (after (fresh_of h) xs) (ys ++ zs) → Decides (after (fresh_of h) xs) i ys zs
  -- with all votes yes and no timeout or restart, no abort is ever reported
  pub no_abort : h.votes ≡ full h.n → AllCalm (fresh_of h) steps → (i : ℕ) → i < length bytes → Says Outcome.Abort (get_or bytes i 0) → ⊥

-- Atomic commitment, of the history that the steps and their bytes show
abbrev pub CommitmentSeen : Header → List Step → List ℕ → Type 0
CommitmentSeen h steps bytes = AtomicCommitment h.n (λ i. has i h.votes) (KeepsGoing (fresh_of h) steps) (history steps (map outcome_in bytes))

-- Request 2026-01: a byte has the 4 just where its step is a due call of a party on a log that is not its own, empty before and abort afterwards;
-- 4 and 6 never occur
pub record ClosedHold (h : Header) (steps : List Step) (bytes : List ℕ) : Type 0 where
  pub closed : (i : ℕ) → i < length bytes
      → (closed_in (get_or bytes i 0) ≡ true) ↔ ClosesAnother (after (fresh_of h) (take i steps)) (get_or steps i Step.Start) (after (fresh_of h) (take (suc i) steps))
  pub never : (i : ℕ) → i < length bytes → (get_or bytes i 0 ≢ 4) × (get_or bytes i 0 ≢ 6)

-- `tail` are the report's last bytes: their counts, of two bytes, low first, are the due store calls that the rules' definition counts over the schedule
abbrev pub CountsHold : Header → List Step → List ℕ → Type 0
CountsHold h steps tail = (p : ℕ) → p ≤ places → count_at (form_of h.kind) tail p ≡ calls_made p (fresh_of h) steps

-- All of it, of the step bytes and the tail of a report
pub record ReportHolds (h : Header) (steps : List Step) (bytes tail : List ℕ) : Type 0 where
  pub demand : BytesHold h steps bytes
  pub commitment : CommitmentSeen h steps bytes
  pub closed : ClosedHold h steps bytes
  pub counts : CountsHold h steps tail

pub record Marked (report schedule : List ℕ) (written : ℕ) : Type 0 where
  pub header : Header
  pub steps : List Step
  pub accepted : read_schedule schedule ≡ Accepted header steps
  pub length_written : written ≡ length steps + tail_size header
  pub holds : ReportHolds header steps (steps_left header (run_leaves report schedule) written) (tail_left header (run_leaves report schedule) written)

-- every run that is accepted
abbrev pub MarkedHolds : Type 0
MarkedHolds = (report schedule : List ℕ) (written : ℕ) → run_answers (length report) schedule ≡ Ok written → Marked report schedule written

-- For every header and list of steps that fits a schedule, a run of it is accepted, and the reported decisions are the marker's own bytes
abbrev pub ListMarked : Type 0
ListMarked =
    (h : Header) (steps : List Step) → header_in_range h ≡ true → AllInRange h.n steps → length (schedule_bytes h steps) ≤ longest
    → (report : List ℕ) → length steps + tail_size h ≤ length report
    → (run_answers (length report) (schedule_bytes h steps) ≡ Ok (length steps + tail_size h))
    × (steps_left h (run_leaves report (schedule_bytes h steps)) (length steps + tail_size h) ≡ step_bytes (fresh_of h) steps)
