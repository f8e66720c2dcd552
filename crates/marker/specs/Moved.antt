-- Request 2026-04: runs in progress move over. It is said of what the entries answer and leave. Proved in proofs/Moved.antt. Assumes nothing.
use Rattle.std.specs.Prelude.{◌≡◌, true, List, ◌++◌, ℕ, ◌+◌, ◌≤◌, length, take, Ok}
use Rattle.store.specs.Log.{places}
use Rattle.kind.specs.Step.{AllInRange}
use Rattle.schedule.specs.Record.{header_in_range, longest}
use Rattle.schedule.specs.Schedule.{Accepted, read_schedule, steps_bytes, schedule_bytes}
use Rattle.rules.specs.Run.{calls_made}
use Rattle.passes.specs.Pass.{fresh_of}
use Rattle.start.specs.Start.{most_calls, start_header, read_from}
use Rattle.start.specs.Move.{move_answers, move_leaves}
use Rattle.marker.specs.Types.{Step, Header}
use Rattle.marker.specs.Report.{tail_size, steps_left, tail_left}
use Rattle.marker.specs.Run.{run_answers, run_leaves, run_from_answers, run_from_leaves}
use Rattle.marker.specs.Headers.{narrow_header, wide_header}
use Rattle.marker.specs.Demand.{ReportHolds}

-- What an entry gave that was done

-- a run: its header and steps, the bytes of the steps, and the tail
pub record RunGave (h : Header) (steps : List Step) (bytes tail : List ℕ) : Type 0 where
  pub report : List ℕ
  pub schedule : List ℕ
  pub written : ℕ
  pub read : read_schedule schedule ≡ Accepted h steps
  pub done : run_answers (length report) schedule ≡ Ok written
  pub bytes_left : bytes ≡ steps_left h (run_leaves report schedule) written
  pub tail_is_left : tail ≡ tail_left h (run_leaves report schedule) written

-- a move of a tail: the wide one
pub record MoveGave (tail wide : List ℕ) : Type 0 where
  pub buffer : List ℕ
  pub written : ℕ
  pub done : move_answers (length buffer) tail ≡ Ok written
  pub tail_is_left : wide ≡ take written (move_leaves buffer tail)

-- a run from a tail: its steps, their bytes, and the tail after them
pub record RunFromGave (tail : List ℕ) (steps : List Step) (bytes after : List ℕ) : Type 0 where
  pub report : List ℕ
  pub rest : List ℕ
  pub written : ℕ
  pub read : read_from tail rest ≡ Accepted (start_header tail) steps
  pub done : run_from_answers (length report) tail rest ≡ Ok written
  pub bytes_left : bytes ≡ steps_left (start_header tail) (run_from_leaves report tail rest) written
  pub tail_is_left : after ≡ tail_left (start_header tail) (run_from_leaves report tail rest) written

-- what the run of a header and steps gives, into any report with room: just these bytes of the steps, and this tail
abbrev pub RunGives : Header → List Step → List ℕ → List ℕ → Type 0
RunGives h steps bytes tail =
    (report : List ℕ) → length steps + tail_size h ≤ length report
    → (run_answers (length report) (schedule_bytes h steps) ≡ Ok (length steps + tail_size h))
    × (steps_left h (run_leaves report (schedule_bytes h steps)) (length steps + tail_size h) ≡ bytes)
    × (tail_left h (run_leaves report (schedule_bytes h steps)) (length steps + tail_size h) ≡ tail)

-- The theorem of the move: where a narrow run gave the first part, a move its tail and a run from there the rest, the whole schedule under the wide
-- header gives the same step bytes, the first part's and then the rest's, and the same wide tail, if it fits
abbrev pub MoveAgrees : Type 0
MoveAgrees =
    (n votes : ℕ) (first rest : List Step) (first-bytes narrow wide rest-bytes end : List ℕ) → RunGave (narrow_header n votes) first first-bytes narrow → MoveGave narrow wide
    → RunFromGave wide rest rest-bytes end → length (schedule_bytes (wide_header n votes) (first ++ rest)) ≤ longest
    → RunGives (wide_header n votes) (first ++ rest) (first-bytes ++ rest-bytes) end

-- and none of these is refused: every tail that a narrow run gave is moved, and every rest in range that fits is run from there, where there is room
pub record MoveGoesOn (n votes : ℕ) (narrow : List ℕ) : Type 0 where
  pub moved : List ℕ
  pub move_done : (buffer : List ℕ) → 320 ≤ length buffer → (move_answers (length buffer) narrow ≡ Ok 320) × (take 320 (move_leaves buffer narrow) ≡ moved)
  pub rest_read : (rest : List Step) → AllInRange n rest → length (steps_bytes rest) ≤ longest → read_from moved (steps_bytes rest) ≡ Accepted (wide_header n votes) rest
  pub rest_done : (rest : List Step) → AllInRange n rest → length (steps_bytes rest) ≤ longest → (report : List ℕ) → length rest + 320 ≤ length report
      → run_from_answers (length report) moved (steps_bytes rest) ≡ Ok (length rest + 320)

abbrev pub NarrowGoesOn : Type 0
NarrowGoesOn =
    (n votes : ℕ) (first : List Step) (bytes narrow : List ℕ) → RunGave (narrow_header n votes) first bytes narrow → MoveGoesOn n votes narrow

-- The wide tails that runs gave, under n and votes: by a run under header 0B; by the move of one that a run under header 01 gave; by a run from such a
-- tail, and so on. Beside each, the steps that led there from the fresh release, and the bytes reported for them: before and after a move one list
pub data Given (n votes : ℕ) : List Step → List ℕ → List ℕ → Type 0 where
  by_run : {steps : List Step} {bytes tail : List ℕ} → RunGave (wide_header n votes) steps bytes tail → Given n votes steps bytes tail
  by_move : {steps : List Step} {bytes narrow tail : List ℕ} → RunGave (narrow_header n votes) steps bytes narrow → MoveGave narrow tail → Given n votes steps bytes tail
  by_run_from : {steps more : List Step} {bytes tail later end : List ℕ} → Given n votes steps bytes tail → RunFromGave tail more later end
      → Given n votes (steps ++ more) (bytes ++ later) end

pub record GivenHolds (n votes : ℕ) (steps : List Step) (bytes tail : List ℕ) : Type 0 where
  pub header : header_in_range (wide_header n votes) ≡ true
  pub ranged : AllInRange n steps
  -- demand 3 and whatever else is promised of a run's bytes and tail reaches across every move
  pub holds : ReportHolds (wide_header n votes) steps bytes tail
  -- the whole schedule gives the same bytes and the same tail, if it fits
  pub whole : length (schedule_bytes (wide_header n votes) steps) ≤ longest → RunGives (wide_header n votes) steps bytes tail
  -- a run may go on from the tail while no party has made over 54,000 calls
  pub goes_on : ((p : ℕ) → p ≤ places → calls_made p (fresh_of (wide_header n votes)) steps ≤ most_calls) → (rest : List Step) → AllInRange n rest
      → length (steps_bytes rest) ≤ longest → read_from tail (steps_bytes rest) ≡ Accepted (wide_header n votes) rest

-- Of a tail that no run gave, or one reached from it, nothing is said here: the contract of `run_from` says that its report follows the step rules
abbrev pub AllGivenHold : Type 0
AllGivenHold = (n votes : ℕ) (steps : List Step) (bytes tail : List ℕ) → Given n votes steps bytes tail → GivenHolds n votes steps bytes tail
