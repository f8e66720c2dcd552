-- Nothing is lost between bytes and steps, either way, and a refusal is the first from the left. Proved in proofs/RoundTrip.antt. Assumes nothing.
use Rattle.std.specs.Prelude.{◌≡◌, Bool, true, ◌&&◌, List, [], ◌∷◌, ◌++◌, ℕ, ◌≤◌, ◌<◌, length, Option, Some, None}
use Rattle.kind.specs.Step.{AllInRange}
use Rattle.schedule.specs.Types.{Step, Header, Record, Refusal}
use Rattle.schedule.specs.Record.{header_in_range, longest}
use Rattle.schedule.specs.Reader.{refused, is_placed, in_range_after, reader_answers}
use Rattle.schedule.specs.Schedule.{Accepted, Refused, read_schedule, schedule_bytes}

-- a record that may come after this header, or as the header where there is none
abbrev pub may_follow : Option Header → Record → Bool
may_follow before r = is_placed before r.kind && in_range_after before r

-- bytes: numbers below 256. A number of several bytes gives back just these
abbrev pub AllBytes : List ℕ → Type 0
AllBytes [] = Unit {0}
AllBytes (x ∷ xs) = (x < 256) × AllBytes xs

-- A whole schedule

-- every accepted schedule's bytes are the bytes of what was read
abbrev pub BytesKept : Type 0
BytesKept =
    (bytes : List ℕ) → AllBytes bytes → (h : Header) (steps : List Step) → read_schedule bytes ≡ Accepted h steps → schedule_bytes h steps ≡ bytes

-- every header in range, with steps in range under it and within the longest schedule, is read back from its bytes
abbrev pub StepsKept : Type 0
StepsKept =
    (h : Header) (steps : List Step) → header_in_range h ≡ true → AllInRange h.n steps → length (schedule_bytes h steps) ≤ longest
    → read_schedule (schedule_bytes h steps) ≡ Accepted h steps

-- and only such are accepted
abbrev pub ReadInRange : Type 0
ReadInRange =
    (bytes : List ℕ) (h : Header) (steps : List Step) → read_schedule bytes ≡ Accepted h steps
    → (header_in_range h ≡ true) × AllInRange h.n steps × (length bytes ≤ longest)

-- the bytes of a schedule are bytes
abbrev pub BytesFit : Type 0
BytesFit = (h : Header) (steps : List Step) → AllBytes (schedule_bytes h steps)

-- Refusals: too long; no header first; or, after a header and steps that are read, a record that the reader refuses. The place is that of the
-- record's first byte
pub data RefusalOf (bytes : List ℕ) : Refusal → ℕ → Type 0 where
  too_long : longest < length bytes → RefusalOf bytes Refusal.EmptyOrTooLong 0
  at_header : {k : Refusal} → length bytes ≤ longest → reader_answers bytes None ≡ refused k → RefusalOf bytes k 0
  at_step : {k : Refusal} (h : Header) (steps : List Step) (rest : List ℕ) → length bytes ≤ longest → header_in_range h ≡ true → AllInRange h.n steps
      → bytes ≡ schedule_bytes h steps ++ rest → 0 < length rest → reader_answers rest (Some h) ≡ refused k
      → RefusalOf bytes k (length (schedule_bytes h steps))

-- for every bytes exactly one outcome, since `read_schedule` is a function; a refusal is one of these, and each of these is refused
pub record FirstRefusal : Type 0 where
  pub found : (bytes : List ℕ) → AllBytes bytes → (k : Refusal) (place : ℕ) → read_schedule bytes ≡ Refused k place → RefusalOf bytes k place
  pub given : (bytes : List ℕ) (k : Refusal) (place : ℕ) → RefusalOf bytes k place → read_schedule bytes ≡ Refused k place
