-- What is handed over as one number, for C. Assumes nothing.
use Rattle.std.specs.Prelude.{Bool, cond, ℕ, ◌+◌, ◌*◌, ◌%◌, eqb, Option, Some, None, Ok, Err}
use Rattle.number.specs.Refusal.{Handed, refusal_number}
use Rattle.store.specs.Log.{record_number, record_of}
use Rattle.store.specs.Entry as Entry
use Rattle.kind.specs.Kind.{kind_number, kind_of}
use Rattle.schedule.specs.Reader.{Read}
use Rattle.export.specs.Types.{LogPair, Header}

-- the refusal's number or 0 in the upper 32 bits, the place or the length in the lower ones
abbrev pub packed : Handed → ℕ
packed h = h.number * 4294967296 + h.value % 4294967296

-- four bytes, the first lowest
abbrev pub four_bytes : ℕ → ℕ → ℕ → ℕ → ℕ
four_bytes a b c d = a % 256 + 256 * (b % 256) + 65536 * (c % 256) + 16777216 * (d % 256)

-- seven bytes, the first lowest: three, and a number of four
abbrev pub seven_bytes : ℕ → ℕ → ℕ → ℕ → ℕ
seven_bytes a b c x = four_bytes a b c 0 + 16777216 * x

-- a record: its kind, its first number, its length, its second number; or 0, the refusal's number, 0, the place
abbrev pub read_packed : Read → ℕ
read_packed (Ok (r, l)) = seven_bytes (kind_number r.kind) r.first (l % 256) r.second
read_packed (Err k) = seven_bytes 0 (refusal_number k.refusal) 0 (k.value % 4294967296)

-- the header that came before, by the number of its kind, or none
abbrev pub before_of : ℕ → ℕ → ℕ → Option Header
before_of told n votes = cond (eqb told 0) None (Some (record { kind = kind_of told; n = n; votes = votes }))

-- a log by the numbers of its records
abbrev pub pair_of : ℕ → ℕ → LogPair
pair_of first last = record { first = record_of first; last = record_of last }

-- the record answered, and 4 more where the call wrote the first record
abbrev pub answer_packed : ℕ → Bool → ℕ
answer_packed answer wrote = answer + cond wrote 4 0

-- the refusal's number or 0, the log's first and last record, the record answered
abbrev pub entry_packed : Entry.EntryHanded → ℕ
entry_packed h = four_bytes h.number (record_number h.log.first) (record_number h.log.last) (answer_packed h.answer h.wrote)
