-- A refusal of a class file is the first from the left, and 4 is only for a file that does not begin with a header. Assumes nothing.
use mathlib.Core.Path.{◌≡◌, refl, sym, ap, subst, ◌∙◌}
use mathlib.Core.Logic.{◌⊎◌, inl, inr, ⊎_elim}
use mathlib.Core.Bool.{Bool, true, false, cond}
use mathlib.Core.List.{List, [], ◌∷◌, ◌++◌, flatten}
use Prim.Native.Nat.{ℕ, zero, suc, ◌+◌, ◌-◌, ◌≤◌, ◌<◌}
use native.Mathlib.Omega.{arith}
use lib.Dec.{eqb, leb, ltb}
use lib.ListN.{length, get_or, take, drop, length-append, length-drop}
use borrow.Author.Tests.{lt-ltb, le-ltb, eq-eqb, ltb-true, ltb-false, eqb-true, eqb-false, not-false}
use Rattle.std.specs.Prelude.{Ok, Err, Option, Some, None}
use Rattle.number.specs.Refusal.{refusal_number}
use Rattle.kind.specs.Kind.{kind_of, is_kind, is_header, body_length}
use Rattle.schedule.specs.Record.{record_header, record_step, longest}
use Rattle.schedule.specs.Reader.{Read, is_placed, record_at, in_range_after, ranged, refused, reader_answers}
use Rattle.schedule.specs.Schedule.{Reading, Accepted, Refused, with_step, and_then, steps_from, steps_after, read_schedule}
use Rattle.schedule.proofs.Records.{read_untested}
use Rattle.schedule.proofs.Reading.{SaysWhole, skipped, refused_at_first, read_says}
use Rattle.parts.specs.Parts.{parts, parts_up_to, part_length, rest_length}
use Rattle.parts.proofs.Laws.{whole}
use Rattle.figures.specs.Types.{Step, Header, Record, Refusal}
use Rattle.figures.specs.Types as types
use Rattle.figures.specs.Class.{Schedule, ClassReading, Class, NoClass, part_then, read_parts, read_class}
use Rattle.figures.specs.Figures.{class_answer}
use Rattle.figures.specs.Promises.{EachRuns, no_more, runs_and_then, ClassRefusalOf, class_too_long, class_empty, at_schedule, FirstClassRefusal, ClassAnswered, HeaderFirst}
use Rattle.figures.proofs.Kept.{runs, first_of, read_parts_lem}

-- Where a reading by parts stops

record Stop (ps : List (List ℕ)) (k : Refusal) (from place : ℕ) : Type 0 where
  before : List (List ℕ)
  done : List Schedule
  part : List ℕ
  rest : List (List ℕ)
  within : ℕ
  cut : ps ≡ before ++ (part ∷ rest)
  runs : EachRuns before done
  refused : read_schedule part ≡ Refused k within
  there : place ≡ from + (length (flatten before) + within)

accepted_not : {A : Type 0} (k : Refusal) (place : ℕ) (ys : List Schedule) → Class ys ≡ NoClass k place → A
accepted_not k place ys e = let z : ◌≡◌ {A = ℕ} 0 1 = cc in absurd (omega arith)

same_refusal : (k : Refusal) (p : ℕ) (j : Refusal) (q : ℕ) → NoClass k p ≡ NoClass j q → (k ≡ j) × (p ≡ q)
same_refusal k p j q e = (cc, cc)

stop : (from : ℕ) (ps : List (List ℕ)) (k : Refusal) (place : ℕ) → read_parts from ps ≡ NoClass k place → Stop ps k from place
unfolding read_parts flatten
stop from [] k place e = accepted_not k place [] e
stop from (part ∷ ps) k place e = go (read_schedule part) refl (read_parts (from + length part) ps) (stop (from + length part) ps k place) e
  where
    go : (x : Reading) → read_schedule part ≡ x → (y : ClassReading) → (y ≡ NoClass k place → Stop ps k (from + length part) place) → part_then from x y ≡ NoClass k place → Stop (part ∷ ps) k from place
    go (Accepted h steps) q (Class ts) ih e = accepted_not k place (record { header = h; steps = steps } ∷ ts) e
    go (Accepted h steps) q (NoClass j p) ih e =
        let x = ih e in
        let s : Schedule = record { header = h; steps = steps } in
        record {
          before = part ∷ x.before;
          done = s ∷ x.done;
          part = x.part;
          rest = x.rest;
          within = x.within;
          cut = ap (λ (l : List (List ℕ)). part ∷ l) x.cut;
          runs = runs_and_then (runs part s q) x.runs;
          refused = x.refused;
          there = omega (arith, x.there, length-append part (flatten x.before));
        }
    go (Refused j p) q y ih e =
        let n = same_refusal j (from + p) k place e in
        record { before = []; done = []; part = part; rest = ps; within = p; cut = refl; runs = no_more; refused = q ∙ ap (λ i. Refused i p) n.0; there = omega (arith, n.1) }

found : (file : List ℕ) (k : Refusal) (place : ℕ) → read_class file ≡ NoClass k place → ClassRefusalOf file k place
found file k place e = go (ltb longest (length file)) refl (eqb (length file) 0) refl e
  where
    one : ClassRefusalOf file Refusal.EmptyOrTooLong 0 → NoClass Refusal.EmptyOrTooLong 0 ≡ NoClass k place → ClassRefusalOf file k place
    one x e =
        let n = same_refusal Refusal.EmptyOrTooLong 0 k place e in
        subst (λ i. ClassRefusalOf file i place) n.0 (subst (ClassRefusalOf file Refusal.EmptyOrTooLong) n.1 x)

    go : (a : Bool) → ltb longest (length file) ≡ a → (b : Bool) → eqb (length file) 0 ≡ b
        → cond a (NoClass Refusal.EmptyOrTooLong 0) (cond b (NoClass Refusal.EmptyOrTooLong 0) (read_parts 0 (parts file))) ≡ NoClass k place
        → ClassRefusalOf file k place
    go true p b q e = one (class_too_long (ltb-true longest (length file) p)) e
    go false p true q e = one (class_empty (eqb-true (length file) 0 q)) e
    go false p false q e =
        let x = stop 0 (parts file) k place e in
        at_schedule {place = place} (ltb-false longest (length file) p)
        (record { before = x.before; done = x.done; part = x.part; rest = x.rest; within = x.within; cut = x.cut; runs = x.runs; refused = x.refused; there = omega (arith, x.there) })

-- The other way

no_parts : {A : Type 0} (file : List ℕ) (x : List (List ℕ)) (y : List ℕ) (z : List (List ℕ)) → length file ≡ 0 → parts file ≡ x ++ (y ∷ z) → A
unfolding parts_up_to
no_parts [] [] y z n e = let w : ◌≡◌ {A = ℕ} 0 1 = cc in absurd (omega arith)
no_parts [] (a ∷ x) y z n e = let w : ◌≡◌ {A = ℕ} 0 1 = cc in absurd (omega arith)
no_parts (b ∷ file) x y z n e = absurd (omega arith)

stopped : {before : List (List ℕ)} {done : List Schedule} → EachRuns before done → (last : List ℕ) (more : List (List ℕ)) (k : Refusal) (within : ℕ)
    → read_schedule last ≡ Refused k within
    → (from : ℕ) → read_parts from (before ++ (last ∷ more)) ≡ NoClass k (from + (length (flatten before) + within))
unfolding read_parts flatten
stopped no_more last more k within e from =
    ap (λ (x : Reading). part_then from x (read_parts (from + length last) more)) e ∙ ap (NoClass k) (omega arith)
stopped (runs_and_then {part} {rest} {s} {ss} r rs) last more k within e from =
    ap (λ (x : Reading). part_then from x (read_parts (from + length part) (rest ++ (last ∷ more)))) r.accepted
    ∙ ap (part_then from (Accepted s.header s.steps)) (stopped rs last more k within e (from + length part))
    ∙ ap (NoClass k) (omega (arith, length-append part (flatten rest)))

given : (file : List ℕ) (k : Refusal) (place : ℕ) → ClassRefusalOf file k place → read_class file ≡ NoClass k place
given file k place (class_too_long h) = simp (lt-ltb longest (length file) h)
given file k place (class_empty e) = simp (le-ltb longest (length file) (omega (arith, e)), eq-eqb (length file) 0 e)
given file k place (at_schedule short x) = go (eqb (length file) 0) refl
  where
    go : (b : Bool) → eqb (length file) 0 ≡ b → read_class file ≡ NoClass k place
    go true q = no_parts file x.before x.part x.rest (eqb-true (length file) 0 q) x.cut
    go false q =
        let some = eqb-false (length file) 0 q in
        read_parts_lem file short (omega (arith, some))
        ∙ ap (read_parts 0) x.cut
        ∙ stopped x.runs x.part x.rest k x.within x.refused 0
        ∙ ap (NoClass k) (omega (arith, x.there))

pub first_class_refusal : FirstClassRefusal
first_class_refusal = record { found = found; given = given }

-- their numbers are 1 to 5, and no place is too large

flat_le : (xs ys : List (List ℕ)) → length (flatten xs) ≤ length (flatten (xs ++ ys))
unfolding flatten
flat_le [] ys = omega arith
flat_le (x ∷ xs) ys = omega (arith, length-append x (flatten xs), length-append x (flatten (xs ++ ys)), flat_le xs ys)

pub refusal_small : (file : List ℕ) (k : Refusal) (place : ℕ) → read_class file ≡ NoClass k place
    → (1 ≤ refusal_number k) × (refusal_number k ≤ refusal_number Refusal.OutOfRange) × (place ≤ longest + longest)
refusal_small file k place e = go k place (found file k place e)
  where
    go : (k : Refusal) (place : ℕ) → ClassRefusalOf file k place
        → (1 ≤ refusal_number k) × (refusal_number k ≤ refusal_number Refusal.OutOfRange) × (place ≤ longest + longest)
    go k place (class_too_long h) = (omega arith, omega arith, omega arith)
    go k place (class_empty h) = (omega arith, omega arith, omega arith)
    go k place (at_schedule short x) =
        let y = subst (SaysWhole x.part) x.refused (read_says x.part) in
        let there = ap (λ (l : List (List ℕ)). length (flatten l)) (sym x.cut) ∙ ap length (whole file) in
        (y.some, y.number, omega (arith, x.there, y.near, flat_le x.before (x.part ∷ x.rest), there, short))

pub class_answered : ClassAnswered
class_answered =
    record {
      figures = λ file ss e. ap class_answer e;
      refusal = λ file k place e. ap class_answer e;
      number = λ file k place e. let small = refusal_small file k place e in (small.0, small.1);
    }

-- Headers

reader_same : (j : Refusal) (k : types.Refused) → refused j ≡ Err k → refusal_number j ≡ refusal_number k.refusal
reader_same j k e = let z : record { refusal = j; value = 0 } ≡ k = cc in ap (λ r. refusal_number r.refusal) z

not_misplaced : {A : Type 0} (k : Refusal) → k ≡ Refusal.EmptyOrTooLong → k ≡ Refusal.HeaderMisplaced → A
not_misplaced k e m = let z : ◌≡◌ {A = ℕ} 0 1 = cc in absurd (omega arith)

-- the reader says 4 only of a record in the wrong place
misplaced : (bytes : List ℕ) (before : Option Header) (k : types.Refused) → reader_answers bytes before ≡ Err k → k.refusal ≡ Refusal.HeaderMisplaced
    → is_placed before (kind_of (get_or bytes 0 0)) ≡ false
misplaced bytes before k e m =
    go (eqb (length bytes) 0) (is_kind (get_or bytes 0 0)) (leb (length bytes) (body_length (kind_of (get_or bytes 0 0)))) (is_placed before (kind_of (get_or bytes 0 0)))
    (in_range_after before r) e
  where
    r : Record
    r = record_at bytes (kind_of (get_or bytes 0 0))

    four : refusal_number k.refusal ≡ 4
    four = ap refusal_number m

    go : (a b c d f : Bool)
        → cond a (refused Refusal.EmptyOrTooLong)
        (cond b (cond c (refused Refusal.BodyCutShort) (cond d (ranged r f) (refused Refusal.HeaderMisplaced))) (refused Refusal.UnknownKind)) ≡ Err k
        → d ≡ false
    go true b c d f e = absurd (omega (arith, reader_same Refusal.EmptyOrTooLong k e, four))
    go false true true d f e = absurd (omega (arith, reader_same Refusal.BodyCutShort k e, four))
    go false true false true true e = let z : ◌≡◌ {A = ℕ} 0 1 = cc in absurd (omega arith)
    go false true false true false e = absurd (omega (arith, reader_same Refusal.OutOfRange k e, four))
    go false true false false f e = refl
    go false false c d f e = absurd (omega (arith, reader_same Refusal.UnknownKind k e, four))

refusal_same : (k : Refusal) (p : ℕ) (j : Refusal) (q : ℕ) → Refused k p ≡ Refused j q → (k ≡ j) × (p ≡ q)
refusal_same k p j q e = (cc, cc)

read_not : {A : Type 0} (h : Header) (steps : List Step) (k : Refusal) (p : ℕ) → Accepted h steps ≡ Refused k p → A
read_not h steps k p e = let z : ◌≡◌ {A = ℕ} 0 1 = cc in absurd (omega arith)

with_refused : (s : Step) (x : Reading) (k : Refusal) (p : ℕ) → with_step s x ≡ Refused k p → x ≡ Refused k p
with_refused s (Accepted h steps) k p e = read_not h (s ∷ steps) k p e
with_refused s (Refused j q) k p e = e

not_header : {A : Type 0} (b : Bool) → b ≡ true → b ≡ false → A
not_header b p q = let z : true ≡ false = sym p ∙ q in let w : ◌≡◌ {A = ℕ} 0 1 = cc in absurd (omega arith)

-- inside a part there is no header: none of its steps is refused with 4
inside : (h : Header) (place : ℕ) (bytes : List ℕ) (skip : ℕ) (k : Refusal) (p : ℕ)
    → steps_from h place (take (rest_length bytes skip) bytes) skip ≡ Refused k p → k ≡ Refusal.HeaderMisplaced → ⊥
unfolding steps_from rest_length
inside h place [] skip k p e m = read_not h [] k p e
inside h place (x ∷ bytes) (suc skip) k p e m = inside h (suc place) bytes skip k p e m
inside h place (x ∷ bytes) zero k p e m = go (is_header (kind_of x)) refl (λ e. inside h (suc place) bytes (body_length (kind_of x)) k p e m) e
  where
    n : ℕ
    n = rest_length bytes (body_length (kind_of x))

    read : (y : Read) → reader_answers (x ∷ take n bytes) (Some h) ≡ y → is_header (kind_of x) ≡ false
        → (steps_from h (suc place) (take n bytes) (body_length (kind_of x)) ≡ Refused k p → ⊥) → and_then place y (steps_from h (suc place) (take n bytes)) ≡ Refused k p → ⊥
    read (Ok (r, l)) y q never e =
        let size : l - 1 ≡ body_length (kind_of x) = omega (arith, (read_untested (x ∷ take n bytes) (Some h) r l y).1) in
        never (ap (steps_from h (suc place) (take n bytes)) (sym size) ∙ with_refused (record_step r) (steps_from h (suc place) (take n bytes) (l - 1)) k p e)
    read (Err j) y q never e =
        not_header (is_header (kind_of x))
        (not-false (is_header (kind_of x)) (misplaced (x ∷ take n bytes) (Some h) j y ((refusal_same j.refusal (place + j.value) k p e).0 ∙ m))) q

    go : (b : Bool) → is_header (kind_of x) ≡ b → (steps_from h (suc place) (take n bytes) (body_length (kind_of x)) ≡ Refused k p → ⊥)
        → steps_from h place (take (cond b 0 (suc n)) (x ∷ bytes)) 0 ≡ Refused k p → ⊥
    go true q never e = read_not h [] k p e
    go false q never e = read (reader_answers (x ∷ take n bytes) (Some h)) refl q never e

-- so a part is refused with 4 only where it does not begin with a header
part_misplaced : (x : ℕ) (f : List ℕ) (k : Refusal) (p : ℕ) → read_schedule (take (part_length (x ∷ f)) (x ∷ f)) ≡ Refused k p
    → k ≡ Refusal.HeaderMisplaced → (p ≡ 0) × (is_header (kind_of x) ≡ false)
part_misplaced x f k p e m = go (ltb longest (length part)) e
  where
    body : ℕ
    body = body_length (kind_of x)

    inner : List ℕ
    inner = take (rest_length f body) f

    part : List ℕ
    part = x ∷ inner

    by_first : (y : Read) → reader_answers part None ≡ y → steps_after part y ≡ Refused k p → (p ≡ 0) × (is_header (kind_of x) ≡ false)
    by_first (Ok (r, l)) y e =
        let h : Header = record_header r in
        let size : l ≡ suc body = omega (arith, (read_untested part None r l y).1) in
        let one : 1 + body ≡ suc body = omega arith in
        let from : steps_from h 1 inner body ≡ steps_from h l (drop l part) 0 =
        skipped h 1 inner body ∙ ap (λ i. steps_from h i (drop body inner) 0) one ∙ ap (λ i. steps_from h i (drop i part) 0) (sym size) in
        absurd (inside h 1 f body k p (from ∙ e) m)
    by_first (Err j) y e =
        let same = refusal_same j.refusal j.value k p e in
        (sym same.1 ∙ refused_at_first part None j y, misplaced part None j y (same.0 ∙ m))

    go : (b : Bool) → cond b (Refused Refusal.EmptyOrTooLong 0) (steps_after part (reader_answers part None)) ≡ Refused k p
        → (p ≡ 0) × (is_header (kind_of x) ≡ false)
    go true e = not_misplaced k (sym (refusal_same Refusal.EmptyOrTooLong 0 k p e).0) m
    go false e = by_first (reader_answers part None) refl e

-- A part ends where the next one begins with a header, or with the file

abbrev Begins : List ℕ → Type 0
Begins bytes = (length bytes ≡ 0) ⊎ (is_header (kind_of (get_or bytes 0 0)) ≡ true)

next_begins : (bytes : List ℕ) (skip : ℕ) → Begins (drop (rest_length bytes skip) bytes)
unfolding rest_length
next_begins [] skip = inl refl
next_begins (x ∷ bytes) (suc skip) = next_begins bytes skip
next_begins (x ∷ bytes) zero = go (is_header (kind_of x)) refl (next_begins bytes (body_length (kind_of x)))
  where
    go : (b : Bool) → is_header (kind_of x) ≡ b → Begins (drop (rest_length bytes (body_length (kind_of x))) bytes)
        → Begins (drop (cond b 0 (suc (rest_length bytes (body_length (kind_of x))))) (x ∷ bytes))
    go true q ih = inr q
    go false q ih = ih

-- a file that is refused with 4, but not after its first part
module _ (x : ℕ) (f : List ℕ) (from : ℕ) (k : Refusal) (place : ℕ) (e : read_parts from (parts (x ∷ f)) ≡ NoClass k place)
    (m : k ≡ Refusal.HeaderMisplaced) where
  abbrev first : List ℕ
  first = take (part_length (x ∷ f)) (x ∷ f)

  abbrev after : ClassReading
  after = read_parts (from + length first) (parts (drop (part_length (x ∷ f)) (x ∷ f)))

  by_part : (after ≡ NoClass k place → ⊥) → (place ≡ from) × (is_header (kind_of x) ≡ false)
  unfolding read_parts
  by_part never = go (read_schedule first) refl after refl (sym (ap (read_parts from) (first_of (x ∷ f) (omega arith))) ∙ e)
    where
      go : (y : Reading) → read_schedule first ≡ y → (w : ClassReading) → after ≡ w → part_then from y w ≡ NoClass k place → (place ≡ from) × (is_header (kind_of x) ≡ false)
      go (Accepted g steps) q (Class ts) r e = accepted_not k place (record { header = g; steps = steps } ∷ ts) e
      go (Accepted g steps) q (NoClass j p) r e = absurd (never (r ∙ e))
      go (Refused j p) q w r e =
          let n = same_refusal j (from + p) k place e in
          let y = part_misplaced x f j p q (n.0 ∙ m) in
          (omega (arith, n.1, y.0), y.1)

-- where a file begins with a header, 4 is not said
abbrev NotMisplaced : List ℕ → Type 0
NotMisplaced f = Begins f → (from : ℕ) (k : Refusal) (place : ℕ) → read_parts from (parts f) ≡ NoClass k place → k ≡ Refusal.HeaderMisplaced → ⊥

one_later : (f : List ℕ) → ((g : List ℕ) → length g < length f → NotMisplaced g) → NotMisplaced f
unfolding read_parts parts_up_to
one_later [] ih st from k place e m = accepted_not k place [] e
one_later (x ∷ f) ih st from k place e m =
    let rest : List ℕ = drop (part_length (x ∷ f)) (x ∷ f) in
    let y = by_part x f from k place e m (λ r. ih rest (omega (arith, length-drop (part_length (x ∷ f)) (x ∷ f))) (next_begins f (body_length (kind_of x))) (from + length (take (part_length (x ∷ f)) (x ∷ f))) k place r m) in
    ⊎_elim (λ z. omega (arith, z)) (λ z. not_header (is_header (kind_of x)) z y.1) st

later : (most : ℕ) (f : List ℕ) → length f ≤ most → NotMisplaced f
later zero f h = one_later f (λ g l. absurd (omega arith))
later (suc most) f h = one_later f (λ g l. later most g (omega arith))

at_first : (f : List ℕ) (k : Refusal) (place : ℕ) → read_parts 0 (parts f) ≡ NoClass k place → k ≡ Refusal.HeaderMisplaced
    → (place ≡ 0) × (is_header (kind_of (get_or f 0 0)) ≡ false)
unfolding read_parts parts_up_to
at_first [] k place e m = accepted_not k place [] e
at_first (x ∷ f) k place e m =
    let rest : List ℕ = drop (part_length (x ∷ f)) (x ∷ f) in
    by_part x f 0 k place e m (λ r. later (length rest) rest (omega arith) (next_begins f (body_length (kind_of x))) (0 + length (take (part_length (x ∷ f)) (x ∷ f))) k place r m)

pub header_first : HeaderFirst
header_first file place e = go (ltb longest (length file)) (eqb (length file) 0) e
  where
    go : (a b : Bool)
        → cond a (NoClass Refusal.EmptyOrTooLong 0) (cond b (NoClass Refusal.EmptyOrTooLong 0) (read_parts 0 (parts file)))
        ≡ NoClass Refusal.HeaderMisplaced place
        → (place ≡ 0) × (is_header (kind_of (get_or file 0 0)) ≡ false)
    go true b e = not_misplaced Refusal.HeaderMisplaced (sym (same_refusal Refusal.EmptyOrTooLong 0 Refusal.HeaderMisplaced place e).0) refl
    go false true e = not_misplaced Refusal.HeaderMisplaced (sym (same_refusal Refusal.EmptyOrTooLong 0 Refusal.HeaderMisplaced place e).0) refl
    go false false e = at_first file Refusal.HeaderMisplaced place e refl
