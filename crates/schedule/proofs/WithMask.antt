-- The mask that each record is read with is that of its n. Assumes nothing.
use mathlib.Core.Path.{◌≡◌, refl, sym, ap, ◌∙◌}
use mathlib.Core.Bool.{Bool, true, false, cond, ◌&&◌, not}
use mathlib.Core.List.{List}
use Prim.Native.Nat.{ℕ}
use native.Mathlib.Omega.{arith}
use lib.Dec.{eqb}
use lib.Pow.{pow_mono}
use borrow.Author.Tests.{ne_eqb}
use Rattle.std.specs.Prelude.{Some, None, Result, Ok, Err}
use Rattle.number.specs.Refusal as number
use Rattle.mask.specs.Mask.{full}
use Rattle.kind.specs.Kind.{kind_number, is_header}
use Rattle.kind.specs.Step.{numbers_in_range}
use Rattle.schedule.specs.Types.{Kind, Header, Context, Record, Refusal}
use Rattle.schedule.specs.Record.{header_in_range, record_header, header_record, record_length}
use Rattle.schedule.specs.Reader.{Read, refused, ranged, record_at, in_range_after, body_answer, reader_answers}
use Rattle.schedule.specs.Found.{kind_at}
use Rattle.schedule.specs.Context.{context_of, context_in_range, first_of, first_read, ranged_header, in_range_with, found_with, read_with, MaskOfItsN}
use Rattle.schedule.proofs.Laws.{header_room}
use Rattle.schedule.proofs.Tests.{found_refused, found_known}
use Rattle.schedule.proofs.Records.{read_yielded}
use Rattle.schedule.proofs.Reading.{refused_at_first}

-- a header in range has the mask of its n
pub handed_on : (h : Header) → header_in_range h ≡ true → (context_of h).all ≡ full h.n
handed_on h q = rw q refl

-- which has somebody, and that of one out of range has nobody
pub context_ranged : (h : Header) → context_in_range (context_of h) ≡ header_in_range h
context_ranged h = go (header_in_range h) refl
  where
    go : (b : Bool) → header_in_range h ≡ b → not (eqb (cond b (full h.n) 0) 0) ≡ b
    go true e = ap not (ne_eqb (full h.n) 0 (λ z. omega (arith, (header_room h e).0, pow_mono {i = 1} {j = h.n} (header_room h e).0)))
    go false e = refl

-- so a step's record is
record_ranged : (h : Header) (r : Record) → is_header r.kind ≡ false → in_range_with (context_of h) r ≡ in_range_after (Some h) r
record_ranged h r e = rw e (ap (λ b. b && numbers_in_range h.n (kind_number r.kind) r.first r.second) (context_ranged h))

-- and is read

pub read_same : (bytes : List ℕ) (h : Header) → read_with bytes (context_of h) ≡ reader_answers bytes (Some h)
read_same bytes h = go (kind_at bytes) refl
  where
    placed : (k : Kind) (b : Bool) → is_header k ≡ b
        → cond b (refused Refusal.HeaderMisplaced) (ranged (record_at bytes k) (in_range_with (context_of h) (record_at bytes k)))
        ≡ cond (not b) (body_answer (Some h) (record_at bytes k)) (refused Refusal.HeaderMisplaced)
    placed k true e = refl
    placed k false e = ap (ranged (record_at bytes k)) (record_ranged h (record_at bytes k) e)

    go : (x : Result Kind Refusal) → kind_at bytes ≡ x → found_with bytes (context_of h) x ≡ reader_answers bytes (Some h)
    go (Err n) e = found_refused bytes (Some h) n e
    go (Ok k) e = placed k (is_header k) refl ∙ sym (found_known bytes (Some h) k e).0

-- with nobody none is read
nobody : (bytes : List ℕ) (h : Header) (r : Record) (l : ℕ) → read_with bytes (record { header = h; all = 0 }) ≡ Ok (r, l) → ⊥
nobody bytes h r l = go (kind_at bytes)
  where
    placed : (k : Kind) (b : Bool) → cond b (refused Refusal.HeaderMisplaced) (refused Refusal.OutOfRange) ≡ Ok (r, l) → ⊥
    placed k true e = let z : ◌≡◌ {A = ℕ} 0 1 = cc in omega arith
    placed k false e = let z : ◌≡◌ {A = ℕ} 0 1 = cc in omega arith

    go : (x : Result Kind Refusal) → found_with bytes (record { header = h; all = 0 }) x ≡ Ok (r, l) → ⊥
    go (Err n) e = let z : ◌≡◌ {A = ℕ} 0 1 = cc in omega arith
    go (Ok k) e = placed k (is_header k) e

pub mask_of_its_n : MaskOfItsN
mask_of_its_n = record { handed_on = handed_on; same = read_same; nobody = nobody }

-- what a schedule begins with is the reader's answer to its first record
pub first_read_lem : (bytes : List ℕ) → first_read (first_of (reader_answers bytes None)) ≡ reader_answers bytes None
first_read_lem bytes = go (reader_answers bytes None) refl
  where
    go : (x : Read) → reader_answers bytes None ≡ x → first_read (first_of x) ≡ x
    go (Ok (r, l)) e = ap (λ n. Ok (r, n)) (sym (read_yielded bytes None r l e).size)
    go (Err k) e = ap (λ p. Err (number.refused k.refusal p)) (sym (refused_at_first bytes None k e))

-- and that is what the tests of a header give

module _ (bytes : List ℕ) (k : Kind) (e : kind_at bytes ≡ Ok k) where
  abbrev h : Header
  h = record_header (record_at bytes k)

  by_range : (b : Bool) → cond b (Ok (context_of h)) (Err Refusal.OutOfRange) ≡ first_of (ranged (record_at bytes k) b)
  by_range true = refl
  by_range false = refl

  placed : is_header k ≡ true → reader_answers bytes None ≡ ranged (record_at bytes k) (header_in_range h)
  placed q = (found_known bytes None k e).0 ∙ rw q refl

  pub first_ranged : is_header k ≡ true → ranged_header (context_of h) ≡ first_of (reader_answers bytes None)
  first_ranged q =
      ap (λ b. cond b (Ok (context_of h)) (Err Refusal.OutOfRange)) (context_ranged h)
      ∙ by_range (header_in_range h)
      ∙ ap first_of (sym (placed q))

-- what is known of a header that a schedule begins with

pub record Begins (bytes : List ℕ) (c : Context) : Type 0 where
  pub context : c ≡ context_of c.header
  pub read : reader_answers bytes None ≡ Ok (header_record c.header, record_length (header_record c.header))

pub begins_with : (bytes : List ℕ) (c : Context) → first_of (reader_answers bytes None) ≡ Ok c → Begins bytes c
begins_with bytes c e = record { context = go (reader_answers bytes None) e; read = sym (first_read_lem bytes) ∙ ap first_read e }
  where
    same : (c d : Context) → ◌≡◌ {A = Result Context Refusal} (Ok c) (Ok d) → c ≡ d
    same c d e = cc

    go : (x : Read) → first_of x ≡ Ok c → c ≡ context_of c.header
    go (Ok (r, l)) e = let q = same (context_of (record_header r)) c e in sym q ∙ ap (λ (d : Context). context_of d.header) q
    go (Err k) e = let z : ◌≡◌ {A = ℕ} 0 1 = cc in absurd (omega arith)

pub begins_refused : (bytes : List ℕ) (k : Refusal) → first_of (reader_answers bytes None) ≡ Err k → reader_answers bytes None ≡ refused k
begins_refused bytes k e = sym (first_read_lem bytes) ∙ ap first_read e
