-- A whole schedule: bytes to its header and steps, or to the first refusal from the left; and back to bytes. Assumes nothing.
use Rattle.std.specs.Prelude.{cond, List, [], ◌∷◌, ◌++◌, ℕ, zero, suc, ◌+◌, ◌-◌, ltb, length, drop, Some, None, Ok, Err}
use Rattle.schedule.specs.Types.{Step, Header, Refusal}
use Rattle.schedule.specs.Record.{header_record, record_header, step_record, record_step, record_bytes, longest}
use Rattle.schedule.specs.Reader.{Read, reader_answers}

-- a header and steps, or a refusal and its place
pub data Reading : Type 0 where
  Accepted : Header → List Step → Reading
  Refused : Refusal → ℕ → Reading

abbrev pub with_step : Step → Reading → Reading
with_step s (Accepted h steps) = Accepted h (s ∷ steps)
with_step s (Refused k p) = Refused k p

-- the step at a place and those after it, told how many bytes to pass over
abbrev pub and_then : ℕ → Read → (ℕ → Reading) → Reading
and_then place (Ok (r, l)) next = with_step (record_step r) (next (l - 1))
and_then place (Err k) next = Refused k.refusal (place + k.value)

-- the steps from a place on, of which the first `skip` bytes belong to the record before
unfoldable pub steps_from : Header → ℕ → List ℕ → ℕ → Reading
steps_from h place [] skip = Accepted h []
steps_from h place (x ∷ bytes) zero = and_then place (reader_answers (x ∷ bytes) (Some h)) (steps_from h (suc place) bytes)
steps_from h place (x ∷ bytes) (suc skip) = steps_from h (suc place) bytes skip

abbrev pub steps_after : List ℕ → Read → Reading
steps_after bytes (Ok (r, l)) = steps_from (record_header r) l (drop l bytes) 0
steps_after bytes (Err k) = Refused k.refusal k.value

abbrev pub read_schedule : List ℕ → Reading
read_schedule bytes = cond (ltb longest (length bytes)) (Refused Refusal.EmptyOrTooLong 0) (steps_after bytes (reader_answers bytes None))

-- a header and steps to bytes

abbrev pub steps_bytes : List Step → List ℕ
steps_bytes [] = []
steps_bytes (s ∷ steps) = record_bytes (step_record s) ++ steps_bytes steps

abbrev pub schedule_bytes : Header → List Step → List ℕ
schedule_bytes h steps = record_bytes (header_record h) ++ steps_bytes steps
