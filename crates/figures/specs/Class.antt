-- A class file: many schedules, each with its header. It is read to its schedules, each read by itself, or to the first refusal from the left, at its
-- place in the file. Assumes nothing.
use Rattle.std.specs.Prelude.{◌≡◌, true, cond, ℕ, ◌+◌, eqb, ltb, length}
use mathlib.Core.List.{List, [], ◌∷◌, map, flatten}
use Rattle.kind.specs.Step.{AllInRange}
use Rattle.schedule.specs.Record.{header_in_range, longest}
use Rattle.schedule.specs.Schedule.{Reading, Accepted, Refused, read_schedule, schedule_bytes}
use Rattle.parts.specs.Parts.{parts}
use Rattle.figures.specs.Types.{Step, Header, Refusal}

pub record Schedule : Type 0 where
  pub header : Header
  pub steps : List Step

-- the schedules of a file, or a refusal and its place
pub data ClassReading : Type 0 where
  Class : List Schedule → ClassReading
  NoClass : Refusal → ℕ → ClassReading

abbrev pub with_schedule : Schedule → ClassReading → ClassReading
with_schedule s (Class ss) = Class (s ∷ ss)
with_schedule s (NoClass k place) = NoClass k place

-- the schedule that begins at a place, and those after it
abbrev pub part_then : ℕ → Reading → ClassReading → ClassReading
part_then place (Accepted h steps) rest = with_schedule (record { header = h; steps = steps }) rest
part_then place (Refused k p) rest = NoClass k (place + p)

unfoldable pub read_parts : ℕ → List (List ℕ) → ClassReading
read_parts place [] = Class []
read_parts place (part ∷ rest) = part_then place (read_schedule part) (read_parts (place + length part) rest)

-- 1 for an empty file, and for one over 32,768 bytes; then each schedule's own refusals
abbrev pub read_class : List ℕ → ClassReading
read_class file =
    cond (ltb longest (length file)) (NoClass Refusal.EmptyOrTooLong 0)
    (cond (eqb (length file) 0) (NoClass Refusal.EmptyOrTooLong 0) (read_parts 0 (parts file)))

-- schedules to bytes, one after another

abbrev pub bytes_of : Schedule → List ℕ
bytes_of s = schedule_bytes s.header s.steps

abbrev pub class_bytes : List Schedule → List ℕ
class_bytes ss = flatten (map bytes_of ss)

-- a header that can be one, and steps in range under it

abbrev pub ScheduleInRange : Schedule → Type 0
ScheduleInRange s = (header_in_range s.header ≡ true) × AllInRange s.header.n s.steps

abbrev pub AllSchedulesInRange : List Schedule → Type 0
AllSchedulesInRange [] = Unit {0}
AllSchedulesInRange (s ∷ ss) = ScheduleInRange s × AllSchedulesInRange ss
