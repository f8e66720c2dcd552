-- Nothing is lost in a move, nor between the bytes of a run from a tail and its steps, either way; and a refusal is the first. Proved in
-- proofs/Moved.antt and proofs/Kept.antt. Assumes nothing.
use Rattle.std.specs.Prelude.{◌≡◌, true, List, ◌++◌, ℕ, ◌≤◌, ◌<◌, length, Some, None, Err}
use Rattle.number.specs.Refusal.{refused}
use Rattle.kind.specs.Step.{AllInRange}
use Rattle.schedule.specs.Record.{header_in_range, longest}
use Rattle.schedule.specs.Reader.{reader_answers}
use Rattle.schedule.specs.Schedule.{Accepted, Refused, steps_bytes}
use Rattle.schedule.specs.RoundTrip.{AllBytes}
use Rattle.form.specs.Form.{narrow, wide, tail_at}
use Rattle.start.specs.Types.{Kind, Step, Header, Refusal}
use Rattle.start.specs.Start.{tail_refusal, start_header, read_from}
use Rattle.start.specs.Move.{moved_bytes}

-- The move of any tail that is not refused, whether a run gave it or not

pub record Moved (tail : List ℕ) : Type 0 where
  pub long : length (moved_bytes tail) ≡ 320
  -- every field is as it was
  pub same_fields : tail_at wide (moved_bytes tail) ≡ tail_at narrow tail
  -- and a run may start from it
  pub startable : tail_refusal Kind.WideHeader (moved_bytes tail) ≡ None

abbrev pub MoveKept : Type 0
MoveKept = (tail : List ℕ) → tail_refusal Kind.Header tail ≡ None → Moved tail

-- The bytes of a run from a tail

-- steps in range, within the longest schedule, are read back from their bytes
abbrev pub RestStepsKept : Type 0
RestStepsKept =
    (tail : List ℕ) (steps : List Step) → tail_refusal Kind.WideHeader tail ≡ None → AllInRange (start_header tail).n steps → length (steps_bytes steps) ≤ longest
    → read_from tail (steps_bytes steps) ≡ Accepted (start_header tail) steps

-- only such are accepted, under the header of the tail, and bytes that are accepted are the bytes of what was read
pub record RestRead (tail bytes : List ℕ) (h : Header) (steps : List Step) : Type 0 where
  pub tail_taken : tail_refusal Kind.WideHeader tail ≡ None
  pub under : h ≡ start_header tail
  pub header : header_in_range h ≡ true
  pub ranged : AllInRange h.n steps
  pub short : length bytes ≤ longest
  pub long : length (steps_bytes steps) ≡ length bytes
  pub kept : AllBytes bytes → steps_bytes steps ≡ bytes

abbrev pub RestBytesKept : Type 0
RestBytesKept = (tail bytes : List ℕ) (h : Header) (steps : List Step) → read_from tail bytes ≡ Accepted h steps → RestRead tail bytes h steps

-- Refusals: too long; by the tail; or, after steps that are read, a record that the reader refuses, at the place of its first byte. A header is
-- among these, since the reader is told that one came before
pub data RestRefusal (tail bytes : List ℕ) : Refusal → ℕ → Type 0 where
  too_long : longest < length bytes → RestRefusal tail bytes Refusal.EmptyOrTooLong 0
  by_tail : {k : Refusal} → length bytes ≤ longest → tail_refusal Kind.WideHeader tail ≡ Some k → RestRefusal tail bytes k 0
  at_step : {k : Refusal} (steps : List Step) (rest : List ℕ) → length bytes ≤ longest → tail_refusal Kind.WideHeader tail ≡ None
      → AllInRange (start_header tail).n steps → bytes ≡ steps_bytes steps ++ rest → 0 < length rest
      → reader_answers rest (Some (start_header tail)) ≡ Err (refused k 0) → RestRefusal tail bytes k (length (steps_bytes steps))

-- a refusal is one of these, and each of these is refused
pub record FirstRestRefusal : Type 0 where
  pub found : (tail bytes : List ℕ) → AllBytes bytes → (k : Refusal) (place : ℕ) → read_from tail bytes ≡ Refused k place → RestRefusal tail bytes k place
  pub given : (tail bytes : List ℕ) (k : Refusal) (place : ℕ) → RestRefusal tail bytes k place → read_from tail bytes ≡ Refused k place
