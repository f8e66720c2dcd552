-- Request 2026-05, the full set, once: the mask of all participants is worked out at the header and handed on with it, to the reading of each record
-- and to each step. The mask that each record is read with is that of its n. Assumes nothing.
use Rattle.std.specs.Prelude.{◌≡◌, Bool, true, cond, not, ◌&&◌, List, ℕ, eqb, Some, Result, Ok, Err}
use Rattle.mask.specs.Mask.{full}
use Rattle.kind.specs.Kind.{kind_number, is_header}
use Rattle.kind.specs.Step.{numbers_in_range}
use Rattle.schedule.specs.Types.{Kind, Header, Record, Context, Refusal}
use Rattle.schedule.specs.Record.{header_record, record_header, header_in_range, record_length}
use Rattle.schedule.specs.Reader.{Read, refused, ranged, record_at, reader_answers}
use Rattle.schedule.specs.Found.{kind_at}

-- the mask of all participants; a header that is itself out of range is not trusted, and has nobody
abbrev pub all_of : Header → ℕ
all_of h = cond (header_in_range h) (full h.n) 0

abbrev pub context_of : Header → Context
context_of h = record { header = h; all = all_of h }

-- what a schedule begins with, by what the reader answers to its first record
abbrev pub first_of : Read → Result Context Refusal
first_of (Ok (r, l)) = Ok (context_of (record_header r))
first_of (Err k) = Err k.refusal

-- and back
abbrev pub first_read : Result Context Refusal → Read
first_read (Ok c) = Ok (header_record c.header, record_length (header_record c.header))
first_read (Err k) = refused k

-- a schedule can have the header where that mask has somebody
abbrev pub context_in_range : Context → Bool
context_in_range c = not (eqb c.all 0)

abbrev pub ranged_header : Context → Result Context Refusal
ranged_header c = cond (context_in_range c) (Ok c) (Err Refusal.OutOfRange)

-- a record after the header, read with that mask

abbrev pub in_range_with : Context → Record → Bool
in_range_with c r = context_in_range c && numbers_in_range c.header.n (kind_number r.kind) r.first r.second

abbrev pub found_with : List ℕ → Context → Result Kind Refusal → Read
found_with bytes c (Err k) = refused k
found_with bytes c (Ok k) = cond (is_header k) (refused Refusal.HeaderMisplaced) (ranged (record_at bytes k) (in_range_with c (record_at bytes k)))

abbrev pub read_with : List ℕ → Context → Read
read_with bytes c = found_with bytes c (kind_at bytes)

-- The mask that each record is read with is that of its n, and with it every record is read as the reader reads it. With nobody none is read.
-- Proved in proofs/WithMask.antt
pub record MaskOfItsN : Type 0 where
  pub handed_on : (h : Header) → header_in_range h ≡ true → (context_of h).all ≡ full h.n
  pub same : (bytes : List ℕ) (h : Header) → read_with bytes (context_of h) ≡ reader_answers bytes (Some h)
  pub nobody : (bytes : List ℕ) (h : Header) (r : Record) (l : ℕ) → read_with bytes (record { header = h; all = 0 }) ≡ Ok (r, l) → ⊥
