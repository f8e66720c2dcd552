-- The reader: the record that some bytes begin with, told the header that came before, or none. Order: 1, 2, 3, 4, 5. Assumes nothing.
use Rattle.std.specs.Prelude.{Bool, cond, ◌&&◌, not, List, ℕ, ◌+◌, eqb, leb, length, get_or, drop, Option, Some, None, Result, Ok, Err}
use Rattle.number.specs.Refusal.{accepted, refusal_number}
use Rattle.number.specs.Low.{low_number}
use Rattle.kind.specs.Kind.{kind_number, kind_of, is_kind, first_width, second_width, body_length, is_header}
use Rattle.kind.specs.Step.{of_kind}
use Rattle.schedule.specs.Types.{Kind, Step, Header, Record, Refusal, Refused}
use Rattle.schedule.specs.Record.{header_in_range, record_in_range, record_length}

-- a record with its length, or a refusal with the place of the record's first byte
abbrev pub Read : Type 0
Read = Result (Record × ℕ) Refused

-- that place is counted in the bytes given
abbrev pub refused : Refusal → Read
refused k = Err (record { refusal = k; value = 0 })

-- the two numbers of the body, each by the bytes that it has there, 0 where it has none

abbrev pub first_at : List ℕ → Kind → ℕ
first_at bytes k = low_number (first_width k) (drop 1 bytes)

abbrev pub second_at : List ℕ → Kind → ℕ
second_at bytes k = low_number (second_width k) (drop (1 + first_width k) bytes)

-- a header, of either kind, comes first, only there
abbrev pub is_placed : Option Header → Kind → Bool
is_placed None k = is_header k
is_placed (Some h) k = not (is_header k)

-- ranges by the header's n; a header that is itself out of range is not trusted
abbrev pub in_range_after : Option Header → Record → Bool
in_range_after None r = record_in_range 0 r
in_range_after (Some h) r = header_in_range h && record_in_range h.n r

abbrev pub ranged : Record → Bool → Read
ranged r good = cond good (Ok (r, record_length r)) (refused Refusal.OutOfRange)

abbrev pub body_answer : Option Header → Record → Read
body_answer before r = ranged r (in_range_after before r)

-- the record of a kind that the bytes begin with
abbrev pub record_at : List ℕ → Kind → Record
record_at bytes k = record { kind = k; first = first_at bytes k; second = second_at bytes k }

abbrev pub kind_answer : List ℕ → Option Header → Kind → Read
kind_answer bytes before k =
    cond (leb (length bytes) (body_length k)) (refused Refusal.BodyCutShort)
    (cond (is_placed before k) (body_answer before (record_at bytes k)) (refused Refusal.HeaderMisplaced))

abbrev pub reader_answers : List ℕ → Option Header → Read
reader_answers bytes before =
    cond (eqb (length bytes) 0) (refused Refusal.EmptyOrTooLong)
    (cond (is_kind (get_or bytes 0 0)) (kind_answer bytes before (kind_of (get_or bytes 0 0))) (refused Refusal.UnknownKind))

-- what the reader hands over: the refusal's number or 0; the record's length, or the place of the refusal; and the record's numbers, its kind's
-- among them, 0 each for a refusal
pub record ReadHanded : Type 0 where
  pub number : ℕ
  pub value : ℕ
  pub kind : ℕ
  pub first : ℕ
  pub second : ℕ

-- what each case of the answer hands over
abbrev pub read_hands : Read → ReadHanded
read_hands (Ok (r, l)) = record { number = accepted; value = l; kind = kind_number r.kind; first = r.first; second = r.second }
read_hands (Err k) = record { number = refusal_number k.refusal; value = k.value; kind = 0; first = 0; second = 0 }

-- what the answer to these bytes hands over
abbrev pub reader_hands : List ℕ → Option Header → ReadHanded
reader_hands bytes before = read_hands (reader_answers bytes before)

-- what accepted bytes begin with, without a test: the step, and the length of its record. Numbers that its kind does not use are not looked at

abbrev pub step_at : List ℕ → Step
step_at bytes = of_kind (kind_of (get_or bytes 0 0)) (get_or bytes 1 0) (get_or bytes 2 0)

abbrev pub length_at : List ℕ → ℕ
length_at bytes = 1 + body_length (kind_of (get_or bytes 0 0))
