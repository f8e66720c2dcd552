-- Records: one byte of kind and a body of up to two numbers. Headers and steps as records, their ranges, and the bytes of a record.
-- Assumes nothing.
use Rattle.std.specs.Prelude.{Bool, cond, ◌&&◌, List, ◌∷◌, ◌++◌, ℕ, ◌+◌}
use Rattle.number.specs.Low.{low_bytes}
use Rattle.mask.specs.Mask.{within}
use Rattle.kind.specs.Kind.{kind_number, kind_of, first_width, second_width, body_length, is_header, room}
use Rattle.kind.specs.Step.{step_kind, first_number, second_number, of_kind, number_in_range, numbers_in_range}
use Rattle.schedule.specs.Types.{Step, Header, Record}

-- the record of a kind's number and the two numbers of its body, 0 where the body has none
abbrev pub record_by_numbers : ℕ → ℕ → ℕ → Record
record_by_numbers k a b = record { kind = kind_of k; first = a; second = b }

-- a header and a step as records, and back

abbrev pub header_record : Header → Record
header_record h = record { kind = h.kind; first = h.n; second = h.votes }

abbrev pub record_header : Record → Header
record_header r = record { kind = r.kind; n = r.first; votes = r.second }

abbrev pub step_record : Step → Record
step_record s = record { kind = step_kind s; first = first_number s; second = second_number s }

abbrev pub record_step : Record → Step
record_step r = of_kind r.kind r.first r.second

-- n is 1 to the room of the header's kind, which a step's kind doesn't have, and no vote is beyond n
abbrev pub header_in_range : Header → Bool
header_in_range h = number_in_range 1 h.n (room h.kind) && within h.n h.votes

-- a step by n: participants and logs 1 to n, parties 0 to n, unused numbers 0; a header by its own n
abbrev pub record_in_range : ℕ → Record → Bool
record_in_range n r = cond (is_header r.kind) (header_in_range (record_header r)) (numbers_in_range n (kind_number r.kind) r.first r.second)

abbrev pub record_length : Record → ℕ
record_length r = 1 + body_length r.kind

-- the kind, and each number of the body by the bytes that it has there, low byte first
abbrev pub record_bytes : Record → List ℕ
record_bytes r = kind_number r.kind ∷ (low_bytes (first_width r.kind) r.first ++ low_bytes (second_width r.kind) r.second)

-- the most bytes that a schedule has
abbrev pub longest : ℕ
longest = 32768
