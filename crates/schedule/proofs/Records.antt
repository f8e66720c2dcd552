-- One record: what stands in the bytes that the reader takes it from, and that the reader takes it from its bytes. Assumes nothing.
use mathlib.Core.Path.{◌≡◌, refl, sym, ap, ap₂, ◌∙◌}
use mathlib.Core.Bool.{Bool, true, false, cond, not}
use mathlib.Core.List.{List, [], ◌∷◌, ◌++◌, append_assoc}
use Prim.Native.Nat.{ℕ, zero, suc, ◌+◌, ◌^◌, ◌≤◌, ◌<◌}
use native.Mathlib.Omega.{arith}
use native.Mathlib.Nat.{add-zero}
use lib.Dec.{eqb, leb}
use lib.ListN.{length, get_or, drop, length-append, length-drop, take-append-drop}
use lib.Seq.{drop-cons, drop_at, drop-drop, get_or-drop}
use borrow.Author.Tests.{leb-false, eq-eqb, ne_eqb, lt-leb, not-true}
use Rattle.std.specs.Prelude.{Option, Some, None, Ok}
use Rattle.number.specs.Low.{low_bytes, low_number}
use Rattle.number.proofs.Laws.{and_left, and_right, and_true}
use Rattle.number.proofs.LowBytes.{low_length, low_back, low_forth}
use Rattle.kind.specs.Kind.{kind_number, kind_of, is_kind, first_width, second_width, body_length, is_header}
use Rattle.kind.specs.Step.{is_step, of_kind, in_range, numbers_in_range}
use Rattle.kind.proofs.Numbers.{kind_numbers, kind_encoded, kind_of_step, step_no_header, step_tested}
use Rattle.schedule.specs.Types.{Kind, Step, Header, Record, Refusal}
use Rattle.schedule.specs.Record.{record_step, step_record, header_in_range, record_in_range, record_length, record_bytes}
use Rattle.schedule.specs.Reader.{Read, refused, first_at, second_at, record_at, is_placed, in_range_after, kind_answer, reader_answers, step_at, length_at}
use Rattle.schedule.specs.RoundTrip.{may_follow, AllBytes}
use Rattle.schedule.proofs.Laws.{header_size, record_fits}

-- the record of a kind with its body's numbers
abbrev pub record_with : Kind → ℕ → ℕ → Record
record_with k a b = record { kind = k; first = a; second = b }

pub record_length_lem : (r : Record) → length (record_bytes r) ≡ record_length r
record_length_lem r =
    let a : List ℕ = low_bytes (first_width r.kind) r.first in
    let b : List ℕ = low_bytes (second_width r.kind) r.second in
    omega (arith, length-append a b, low_length (first_width r.kind) r.first, low_length (second_width r.kind) r.second)

pub front_length : (r : Record) (rest : List ℕ) → length (record_bytes r ++ rest) ≡ record_length r + length rest
front_length r rest = length-append (record_bytes r) rest ∙ ap (λ n. n + length rest) (record_length_lem r)

-- From a record to bytes and back

-- the reader finds the numbers of a record in its bytes, where they fit
found : (r : Record) (rest : List ℕ) → (r.first < 256 ^ first_width r.kind) × (r.second < 256 ^ second_width r.kind)
    → (first_at (record_bytes r ++ rest) r.kind ≡ r.first) × (second_at (record_bytes r ++ rest) r.kind ≡ r.second)
found r rest fits =
    let v : ℕ = first_width r.kind in
    let w : ℕ = second_width r.kind in
    let a : List ℕ = low_bytes v r.first in
    let b : List ℕ = low_bytes w r.second in
    let after : a ++ b ++ rest ≡ a ++ (b ++ rest) = append_assoc a b rest in
    let there : length (kind_number r.kind ∷ a) ≡ 1 + v = omega (arith, low_length v r.first) in (
      ap (low_number v) after ∙ low_back v r.first (b ++ rest) fits.0,
      ap (λ l. low_number w (drop (1 + v) (kind_number r.kind ∷ l))) after
          ∙ ap (low_number w) (drop_at (kind_number r.kind ∷ a) (b ++ rest) (1 + v) there)
          ∙ low_back w r.second rest fits.1,
    )

-- they fit where the record is in range
after_fits : (before : Option Header) (r : Record) → in_range_after before r ≡ true → (r.first < 256 ^ first_width r.kind) × (r.second < 256 ^ second_width r.kind)
after_fits None r q = record_fits 0 r (omega arith) q
after_fits (Some h) r q = record_fits h.n r (header_size h (and_left (header_in_range h) _ q)).1 (and_right (header_in_range h) _ q)

-- the reader takes a record from its bytes, whatever follows them
pub read_front : (before : Option Header) (r : Record) (rest : List ℕ) → may_follow before r ≡ true
    → reader_answers (record_bytes r ++ rest) before ≡ Ok (r, (record_length r))
read_front before r rest q =
    let bytes : List ℕ = record_bytes r ++ rest in
    let k : Kind = r.kind in
    let some : length bytes ≡ record_length r + length rest = front_length r rest in
    let ranged : in_range_after before (record_with k r.first r.second) ≡ true = and_right (is_placed before k) _ q in
    let f = found r rest (after_fits before r ranged) in
    simp (
      ne_eqb (length bytes) 0 (λ e. omega arith),
      kind_numbers.decoded k,
      eq-eqb (kind_number k) (kind_number k) refl,
      lt-leb (length bytes) (body_length k) (omega arith),
      and_left (is_placed before k) _ q,
      f.0,
      f.1,
      ranged,
    )

-- And from bytes to a record: the bytes begin with the record's

all_byte : (bytes : List ℕ) → AllBytes bytes → (i : ℕ) → get_or bytes i 0 < 256
all_byte [] b i = omega arith
all_byte (x ∷ xs) b zero = b.0
all_byte (x ∷ xs) b (suc i) = all_byte xs b.1 i

pub all_drop : (i : ℕ) (bytes : List ℕ) → AllBytes bytes → AllBytes (drop i bytes)
all_drop zero bytes b = b
all_drop (suc i) [] b = tt
all_drop (suc i) (x ∷ xs) b = all_drop i xs b.1

-- the bytes of a number, and those after them
number_front : (bytes : List ℕ) (i w : ℕ) → AllBytes bytes → i + w ≤ length bytes → drop i bytes ≡ low_bytes w (low_number w (drop i bytes)) ++ drop (i + w) bytes
number_front bytes i w b h =
    let l : List ℕ = drop i bytes in
    sym (take-append-drop w l)
    ∙ ap₂ (λ (x y : List ℕ). x ++ y) (sym (low_forth w l (simp length-drop (omega arith)) (λ k g. all_byte l (all_drop i bytes b) k))) (drop-drop w i bytes)

-- the record that the reader takes apart
begins : (bytes : List ℕ) (k : Kind) → AllBytes bytes → body_length k < length bytes → get_or bytes 0 0 ≡ kind_number k
    → bytes ≡ record_bytes (record_at bytes k) ++ drop (record_length (record_at bytes k)) bytes
begins bytes k b h e =
    let v : ℕ = first_width k in
    let w : ℕ = second_width k in
    let first : List ℕ = low_bytes v (first_at bytes k) in
    let second : List ℕ = low_bytes w (second_at bytes k) in
    let end : 1 + v + w ≡ record_length (record_at bytes k) = omega arith in
    drop-cons bytes 0 0 (omega arith)
    ∙ ap₂ (λ (x : ℕ) (l : List ℕ). x ∷ l) e
    (
    number_front bytes 1 v b (omega arith)
    ∙ ap (λ l. first ++ l) (number_front bytes (1 + v) w b (omega arith) ∙ ap (λ i. second ++ drop i bytes) end)
    ∙ sym (append_assoc first second (drop (record_length (record_at bytes k)) bytes))
    )

-- what it means that the reader yields a record
pub record Yielded (bytes : List ℕ) (before : Option Header) (r : Record) (l : ℕ) : Type 0 where
  pub follows : may_follow before r ≡ true
  pub size : l ≡ record_length r
  pub fits : l ≤ length bytes
  pub front : AllBytes bytes → bytes ≡ record_bytes r ++ drop l bytes

-- a test that leads to a record has not led to a refusal

record_left : (b : Bool) (x : Read) (k : Refusal) (r : Record) (l : ℕ) → cond b x (refused k) ≡ Ok (r, l) → (b ≡ true) × (x ≡ Ok (r, l))
record_left true x k r l e = (refl, e)
record_left false x k r l e = (cc, cc)

record_right : (b : Bool) (x : Read) (k : Refusal) (r : Record) (l : ℕ) → cond b (refused k) x ≡ Ok (r, l) → (b ≡ false) × (x ≡ Ok (r, l))
record_right true x k r l e = (cc, cc)
record_right false x k r l e = (refl, e)

-- the record and length that are yielded
same_record : (r r' : Record) (l l' : ℕ) → ◌≡◌ {A = Read} (Ok (r, l)) (Ok (r', l')) → (r ≡ r') × (l ≡ l')
same_record r r' l l' e = let p : ◌≡◌ {A = Record × ℕ} (r, l) (r', l') = cc in (ap (λ (x : Record × ℕ). x.0) p, ap (λ (x : Record × ℕ). x.1) p)

module _ (bytes : List ℕ) (before : Option Header) where
  body_yielded : (k : Kind) (r : Record) (l : ℕ) → get_or bytes 0 0 ≡ kind_number k → kind_answer bytes before k ≡ Ok (r, l) → Yielded bytes before r l
  body_yielded k r l e q =
      let long = record_right (leb (length bytes) (body_length k)) _ Refusal.BodyCutShort r l q in
      let placed = record_left (is_placed before k) _ Refusal.HeaderMisplaced r l long.1 in
      let ranged = record_left (in_range_after before (record_at bytes k)) _ Refusal.OutOfRange r l placed.1 in
      let same = same_record (record_at bytes k) r (record_length (record_at bytes k)) l ranged.1 in
      let found : Yielded bytes before (record_at bytes k) (record_length (record_at bytes k)) =
      record {
        follows = and_true _ _ placed.0 ranged.0;
        size = refl;
        fits = omega (arith, leb-false (length bytes) (body_length k) long.0);
        front = λ b. begins bytes k b (leb-false (length bytes) (body_length k) long.0) e;
      } in
      rw (same.0, same.1) at found

  pub read_yielded : (r : Record) (l : ℕ) → reader_answers bytes before ≡ Ok (r, l) → Yielded bytes before r l
  read_yielded r l q =
      let x : ℕ = get_or bytes 0 0 in
      let some = record_right (eqb (length bytes) 0) _ Refusal.EmptyOrTooLong r l q in
      let known = record_left (is_kind x) _ Refusal.UnknownKind r l some.1 in
      body_yielded (kind_of x) r l (sym (kind_numbers.encoded x known.0)) known.1

-- what is yielded, without a test

pub one_byte : (bytes : List ℕ) (i : ℕ) → low_number 1 (drop i bytes) ≡ get_or bytes i 0
one_byte bytes i = omega (arith, get_or-drop i bytes 0 0 ∙ ap (λ k. get_or bytes k 0) (add-zero i))

step_in : (bytes : List ℕ) (k : Kind) → record_step (record_at bytes k) ≡ of_kind k (get_or bytes 1 0) (get_or bytes 2 0)
step_in bytes Kind.Header = refl
step_in bytes Kind.Start = refl
step_in bytes Kind.Deliver = rw (one_byte bytes 1, one_byte bytes 2) refl
step_in bytes Kind.Copy = rw (one_byte bytes 1, one_byte bytes 2) refl
step_in bytes Kind.Lose = rw (one_byte bytes 1, one_byte bytes 2) refl
step_in bytes Kind.Call = rw (one_byte bytes 1, one_byte bytes 2) refl
step_in bytes Kind.CallLost = rw (one_byte bytes 1, one_byte bytes 2) refl
step_in bytes Kind.Timeout = rw (one_byte bytes 1) refl
step_in bytes Kind.Crash = rw (one_byte bytes 1) refl
step_in bytes Kind.Restart = rw (one_byte bytes 1) refl
step_in bytes Kind.WideHeader = refl

pub read_untested : (bytes : List ℕ) (before : Option Header) (r : Record) (l : ℕ) → reader_answers bytes before ≡ Ok (r, l)
    → (record_step r ≡ step_at bytes) × (l ≡ length_at bytes)
read_untested bytes before r l q =
    let k : Kind = kind_of (get_or bytes 0 0) in
    let some = record_right (eqb (length bytes) 0) _ Refusal.EmptyOrTooLong r l q in
    let known = record_left (is_kind (get_or bytes 0 0)) _ Refusal.UnknownKind r l some.1 in
    let long = record_right (leb (length bytes) (body_length k)) _ Refusal.BodyCutShort r l known.1 in
    let placed = record_left (is_placed before k) _ Refusal.HeaderMisplaced r l long.1 in
    let ranged = record_left (in_range_after before (record_at bytes k)) _ Refusal.OutOfRange r l placed.1 in
    let same = same_record (record_at bytes k) r (record_length (record_at bytes k)) l ranged.1 in
    (ap record_step (sym same.0) ∙ step_in bytes k, sym same.1)

-- Steps as records, and back

pub step_follows : (h : Header) (s : Step) → header_in_range h ≡ true → in_range h.n s ≡ true → may_follow (Some h) (step_record s) ≡ true
step_follows h s g q = simp (step_no_header s, g, step_tested h.n s q)

pub record_step_lem : (h : Header) (r : Record) → may_follow (Some h) r ≡ true → (step_record (record_step r) ≡ r) × (in_range h.n (record_step r) ≡ true)
record_step_lem h r q =
    let k : Kind = r.kind in
    let no : is_header k ≡ false = not-true (is_header k) (and_left (not (is_header k)) _ q) in
    let ranged : record_in_range h.n r ≡ true = and_right (header_in_range h) _ (and_right (not (is_header k)) _ q) in
    let tested : numbers_in_range h.n (kind_number k) r.first r.second ≡ true = rw no at ranged in
    let e = kind_encoded k r.first r.second (and_left (is_step (kind_number k) r.first r.second) _ tested) in
    let back : step_record (record_step r) ≡ record_with k r.first r.second = rw (kind_of_step k r.first r.second no, e.0, e.1) refl in
    (back, ap (λ k. in_range h.n (of_kind k r.first r.second)) (sym (kind_numbers.decoded k)) ∙ and_right (is_step (kind_number k) r.first r.second) _ tested)
