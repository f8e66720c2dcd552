-- What reading a schedule gives: steps in range are read one after the other, and what was read stands in the bytes. Assumes nothing.
use mathlib.Core.Path.{◌≡◌, refl, sym, ap, ap₂, subst, ◌∙◌}
use mathlib.Core.Bool.{Bool, true, false, cond}
use mathlib.Core.List.{List, [], ◌∷◌, ◌++◌, append-nil, append_assoc}
use Prim.Native.Nat.{ℕ, zero, suc, ◌+◌, ◌-◌, ◌≤◌, ◌<◌}
use native.Mathlib.Omega.{arith}
use native.Mathlib.Nat.{add-zero}
use lib.Dec.{eqb, leb, ltb, lit≤}
use lib.ListN.{length, get_or, drop, length-drop}
use lib.Seq.{drop_at}
use borrow.Author.Tests.{ltb-true, ltb-false, le-ltb}
use Rattle.std.specs.Prelude.{Option, Some, None, Ok, Err}
use Rattle.number.specs.Refusal.{refusal_number}
use Rattle.number.specs.Refusal as number
use Rattle.number.specs.declared.Refused as declared
use Rattle.number.proofs.Laws.{and_left, and_right}
use Rattle.kind.specs.Kind.{kind_of, is_kind, body_length, is_header}
use Rattle.kind.specs.Step.{AllInRange}
use Rattle.kind.proofs.Numbers.{kind_decoded}
use Rattle.schedule.specs.Types.{Kind, Step, Header, Record, Refusal}
use Rattle.schedule.specs.Record.{header_record, record_header, step_record, record_step, header_in_range, record_length, record_bytes, longest}
use Rattle.schedule.specs.Reader.{Read, refused, record_at, is_placed, in_range_after, kind_answer, reader_answers}
use Rattle.schedule.specs.Schedule.{Reading, Accepted, Refused, with_step, and_then, steps_from, steps_after, read_schedule, steps_bytes, schedule_bytes}
use Rattle.schedule.specs.RoundTrip.{may_follow, AllBytes, RefusalOf, too_long, at_header, at_step}
use Rattle.schedule.proofs.Laws.{header_follows}
use Rattle.schedule.proofs.Records.{record_length_lem, front_length, read_front, all_drop, read_yielded, step_follows, record_step_lem}

-- Reading on

-- bytes that belong to the record before are passed over
pub skipped : (h : Header) (place : ℕ) (bytes : List ℕ) (skip : ℕ) → steps_from h place bytes skip ≡ steps_from h (place + skip) (drop skip bytes) 0
unfolding steps_from
skipped h place [] zero = refl
skipped h place [] (suc skip) = refl
skipped h place (x ∷ bytes) zero = rw (add-zero place) refl
skipped h place (x ∷ bytes) (suc skip) =
    let e : suc place + skip ≡ place + suc skip = omega arith in
    skipped h (suc place) bytes skip ∙ ap (λ p. steps_from h p (drop skip bytes) 0) e

-- a record that the reader yields comes first, and then what follows it: no byte of it is looked at again
pub read_on : (h : Header) (place : ℕ) (bytes : List ℕ) (r : Record) (l : ℕ) → reader_answers bytes (Some h) ≡ Ok (r, l)
    → steps_from h place bytes 0 ≡ with_step (record_step r) (steps_from h (place + l) (drop l bytes) 0)
unfolding steps_from
read_on h place [] r l e = let z : ◌≡◌ {A = ℕ} 0 1 = cc in absurd (omega arith)
read_on h place (x ∷ bytes) r l e =
    let y = read_yielded (x ∷ bytes) (Some h) r l e in
    let there : suc place + (l - 1) ≡ place + l = omega (arith, y.size) in
    let cut : suc (l - 1) ≡ l = omega (arith, y.size) in
    ap (λ y. and_then place y (steps_from h (suc place) bytes)) e
    ∙ ap (with_step (record_step r)) (skipped h (suc place) bytes (l - 1) ∙ ap₂ (λ (p : ℕ) (b : List ℕ). steps_from h p b 0) there (ap (λ k. drop k (x ∷ bytes)) cut))

-- a record in range comes first, and then what follows its bytes
first_step : (h : Header) (place : ℕ) (r : Record) (rest : List ℕ) → may_follow (Some h) r ≡ true
    → steps_from h place (record_bytes r ++ rest) 0 ≡ with_step (record_step r) (steps_from h (place + record_length r) rest 0)
first_step h place r rest q =
    read_on h place (record_bytes r ++ rest) r (record_length r) (read_front (Some h) r rest q)
    ∙ ap (λ l. with_step (record_step r) (steps_from h (place + record_length r) l 0)) (drop_at (record_bytes r) rest (record_length r) (record_length_lem r))

-- the same for a list of steps

abbrev pub with_steps : List Step → Reading → Reading
with_steps [] x = x
with_steps (s ∷ ss) x = with_step s (with_steps ss x)

first_steps : (h : Header) → header_in_range h ≡ true → (steps : List Step) → AllInRange h.n steps → (place : ℕ) (rest : List ℕ)
    → steps_from h place (steps_bytes steps ++ rest) 0 ≡ with_steps steps (steps_from h (place + length (steps_bytes steps)) rest 0)
first_steps h g [] q place rest = rw (add-zero place) refl
first_steps h g (s ∷ ss) q place rest =
    let r : Record = step_record s in
    let here : ℕ = place + record_length r in
    let far : here + length (steps_bytes ss) ≡ place + length (record_bytes r ++ steps_bytes ss) = omega (arith, front_length r (steps_bytes ss)) in
    ap (λ l. steps_from h place l 0) (append_assoc (record_bytes r) (steps_bytes ss) rest)
    ∙ first_step h place r (steps_bytes ss ++ rest) (step_follows h s g q.0)
    ∙ ap (λ t. with_step t (steps_from h here (steps_bytes ss ++ rest) 0)) (kind_decoded s)
    ∙ ap (with_step s) (first_steps h g ss q.1 here rest ∙ ap (λ p. with_steps ss (steps_from h p rest 0)) far)

all_read : (h : Header) (place : ℕ) (steps : List Step) → with_steps steps (steps_from h place [] 0) ≡ Accepted h steps
unfolding steps_from
all_read h place [] = refl
all_read h place (s ∷ ss) = ap (with_step s) (all_read h place ss)

-- steps alone
pub steps_read : (h : Header) → header_in_range h ≡ true → (steps : List Step) → AllInRange h.n steps → (place : ℕ) → steps_from h place (steps_bytes steps) 0 ≡ Accepted h steps
steps_read h g steps q place =
    ap (λ l. steps_from h place l 0) (sym (append-nil (steps_bytes steps)))
    ∙ first_steps h g steps q place []
    ∙ all_read h (place + length (steps_bytes steps)) steps

-- A header, and steps after it

pub after_header : (h : Header) → header_in_range h ≡ true → (rest : List ℕ) → length (record_bytes (header_record h) ++ rest) ≤ longest
    → read_schedule (record_bytes (header_record h) ++ rest) ≡ steps_from h (record_length (header_record h)) rest 0
after_header h g rest fits =
    simp (
      le-ltb longest (length (record_bytes (header_record h) ++ rest)) fits,
      read_front None (header_record h) rest (header_follows h g),
      drop_at (record_bytes (header_record h)) rest (record_length (header_record h)) (record_length_lem (header_record h)),
    )

-- What was read

-- the reader's refusals name the place of its first byte, and their numbers are 1 to 5

abbrev AtFirst : Read → Type 0
AtFirst (Ok (r, l)) = Unit {0}
AtFirst (Err k) =
    (k.value ≡ 0) × (refusal_number k.refusal ≤ refusal_number Refusal.OutOfRange) × (1 ≤ refusal_number k.refusal)

either : (b : Bool) (x y : Read) → AtFirst x → AtFirst y → AtFirst (cond b x y)
either true x y p q = p
either false x y p q = q

at_first : (bytes : List ℕ) (before : Option Header) → AtFirst (reader_answers bytes before)
at_first bytes before =
    either (eqb (length bytes) 0) _ _ (refl, lit≤ tt, lit≤ tt)
    (either (is_kind (get_or bytes 0 0)) _ _ (known (kind_of (get_or bytes 0 0))) (refl, lit≤ tt, lit≤ tt))
  where
    known : (k : Kind) → AtFirst (kind_answer bytes before k)
    known k =
        let r : Record = record_at bytes k in
        either (leb (length bytes) (body_length k)) _ _ (refl, lit≤ tt, lit≤ tt)
        (either (is_placed before k) _ _ (either (in_range_after before r) (Ok (r, (record_length r))) _ tt (refl, lit≤ tt, lit≤ tt)) (refl, lit≤ tt, lit≤ tt))

pub refused_at_first : (bytes : List ℕ) (before : Option Header) (k : declared.Refused) → reader_answers bytes before ≡ Err k → k.value ≡ 0
refused_at_first bytes before k e = (subst AtFirst e (at_first bytes before)).0

pub refused_number : (bytes : List ℕ) (before : Option Header) (k : declared.Refused) → reader_answers bytes before ≡ Err k
    → refusal_number k.refusal ≤ refusal_number Refusal.OutOfRange
refused_number bytes before k e = (subst AtFirst e (at_first bytes before)).1

refused_some : (bytes : List ℕ) (before : Option Header) (k : declared.Refused) → reader_answers bytes before ≡ Err k → 1 ≤ refusal_number k.refusal
refused_some bytes before k e = (subst AtFirst e (at_first bytes before)).2

-- steps that are read, and then a record that is refused
pub record StoppedAt (h : Header) (place : ℕ) (bytes : List ℕ) (k : Refusal) (at : ℕ) : Type 0 where
  pub steps : List Step
  pub rest : List ℕ
  pub ranged : AllInRange h.n steps
  pub long : length bytes ≡ length (steps_bytes steps) + length rest
  pub split : AllBytes bytes → bytes ≡ steps_bytes steps ++ rest
  pub some : 0 < length rest
  pub refused : reader_answers rest (Some h) ≡ Err (number.refused k 0)
  pub there : at ≡ place + length (steps_bytes steps)

-- what a reading says of the bytes from a place on
abbrev pub Says : Header → ℕ → List ℕ → Reading → Type 0
Says h place bytes (Accepted g steps) =
    (g ≡ h) × AllInRange h.n steps × (length (steps_bytes steps) ≡ length bytes) × (AllBytes bytes → steps_bytes steps ≡ bytes)
Says h place bytes (Refused k at) = StoppedAt h place bytes k at

-- a record that was read stands before the rest
record StandsBefore (bytes : List ℕ) (r : Record) (rest : List ℕ) : Type 0 where
  long : length bytes ≡ record_length r + length rest
  front : AllBytes bytes → bytes ≡ record_bytes r ++ rest
  others : AllBytes bytes → AllBytes rest

says_more : (h : Header) (place : ℕ) (bytes : List ℕ) (r : Record) (rest : List ℕ) → may_follow (Some h) r ≡ true → StandsBefore bytes r rest → (x : Reading)
    → Says h (place + record_length r) rest x → Says h place bytes (with_step (record_step r) x)
says_more h place bytes r rest q z (Accepted g steps) y =
    let s = record_step_lem h r q in
    let same = ap (λ (a : Record). record_bytes a ++ steps_bytes steps) s.0 in (
      y.0,
      (s.1, y.1),
      omega (arith, ap length same, front_length r (steps_bytes steps), y.2, z.long),
      λ b. same ∙ ap (λ l. record_bytes r ++ l) (y.3 (z.others b)) ∙ sym (z.front b),
    )
says_more h place bytes r rest q z (Refused k at) y =
    let s = record_step_lem h r q in
    let same = ap (λ (a : Record). record_bytes a ++ steps_bytes y.steps) s.0 in
    record {
      steps = record_step r ∷ y.steps;
      rest = y.rest;
      ranged = (s.1, y.ranged);
      long = omega (arith, z.long, y.long, front_length r (steps_bytes y.steps), ap length same);
      split = λ b.
          z.front b
          ∙ ap (λ l. record_bytes r ++ l) (y.split (z.others b))
          ∙ sym (append_assoc (record_bytes r) (steps_bytes y.steps) y.rest)
          ∙ ap (λ l. l ++ y.rest) (sym same);
      some = y.some;
      refused = y.refused;
      there = y.there ∙ omega (arith, front_length r (steps_bytes y.steps), ap length same);
    }

says : (h : Header) (place : ℕ) (bytes : List ℕ) (skip : ℕ) → skip ≤ length bytes → Says h (place + skip) (drop skip bytes) (steps_from h place bytes skip)
unfolding steps_from
says h place [] zero fits = (refl, tt, refl, λ b. refl)
says h place [] (suc skip) fits = (refl, tt, refl, λ b. refl)
says h place (x ∷ bytes) (suc skip) fits =
    let e : suc place + skip ≡ place + suc skip = omega arith in
    rw e at (says h (suc place) bytes skip (omega arith))
says h place (x ∷ bytes) zero fits = rw (add-zero place) (read (reader_answers (x ∷ bytes) (Some h)) refl (λ skip. says h (suc place) bytes skip))
  where
    read : (y : Read) → reader_answers (x ∷ bytes) (Some h) ≡ y
        → ((skip : ℕ) → skip ≤ length bytes → Says h (suc place + skip) (drop skip bytes) (steps_from h (suc place) bytes skip))
        → Says h place (x ∷ bytes) (and_then place y (steps_from h (suc place) bytes))
    read (Ok (r, l)) e next =
        let y = read_yielded (x ∷ bytes) (Some h) r l e in
        let longer : l ≡ suc (l - 1) = omega (arith, y.size) in
        let rest : drop l (x ∷ bytes) ≡ drop (l - 1) bytes = ap (λ i. drop i (x ∷ bytes)) longer in
        let there : suc place + (l - 1) ≡ place + record_length r = omega (arith, y.size) in
        says_more h place (x ∷ bytes) r (drop (l - 1) bytes) y.follows (record {
          long = omega (arith, y.size, y.fits, length-drop (l - 1) bytes);
          front = λ b. y.front b ∙ ap (λ t. record_bytes r ++ t) rest;
          others = λ b. all_drop (l - 1) bytes b.1;
        }) (steps_from h (suc place) bytes (l - 1)) (rw there at (next (l - 1) (omega (arith, y.size, y.fits))))
    read (Err k) e next =
        let here : k.value ≡ 0 = refused_at_first (x ∷ bytes) (Some h) k e in
        record {
          steps = [];
          rest = x ∷ bytes;
          ranged = tt;
          long = omega arith;
          split = λ b. refl;
          some = omega arith;
          refused = e ∙ ap (λ p. Err (number.refused k.refusal p)) here;
          there = ap (λ i. place + i) here;
        }

pub read_from_lem : (h : Header) (place : ℕ) (bytes : List ℕ) → Says h place bytes (steps_from h place bytes 0)
read_from_lem h place bytes = subst (λ p. Says h p bytes (steps_from h place bytes 0)) (add-zero place) (says h place bytes 0 (omega arith))

-- no more steps than bytes
pub steps_few : (steps : List Step) → length steps ≤ length (steps_bytes steps)
steps_few [] = omega arith
steps_few (s ∷ ss) = omega (arith, front_length (step_record s) (steps_bytes ss), steps_few ss)

-- what a reading says of a whole schedule

pub record Whole (bytes : List ℕ) (h : Header) (steps : List Step) : Type 0 where
  pub header : header_in_range h ≡ true
  pub ranged : AllInRange h.n steps
  pub short : length bytes ≤ longest
  pub long : length (schedule_bytes h steps) ≡ length bytes
  pub same : AllBytes bytes → schedule_bytes h steps ≡ bytes
  -- the steps stand after the header
  pub after : steps_from h (record_length (header_record h)) (drop (record_length (header_record h)) bytes) 0 ≡ Accepted h steps

pub record Stopped (bytes : List ℕ) (k : Refusal) (at : ℕ) : Type 0 where
  pub number : refusal_number k ≤ refusal_number Refusal.OutOfRange
  pub some : 1 ≤ refusal_number k
  pub near : at ≤ longest
  pub first : AllBytes bytes → RefusalOf bytes k at

abbrev pub SaysWhole : List ℕ → Reading → Type 0
SaysWhole bytes (Accepted h steps) = Whole bytes h steps
SaysWhole bytes (Refused k at) = Stopped bytes k at

pub header_more : (h : Header) (rest : List ℕ) → record_length (header_record h) + length rest ≡ length (record_bytes (header_record h) ++ rest)
header_more h rest = sym (front_length (header_record h) rest)

says_whole : (h : Header) (bytes rest : List ℕ) → header_in_range h ≡ true → length bytes ≤ longest → StandsBefore bytes (header_record h) rest
    → drop (record_length (header_record h)) bytes ≡ rest
    → (x : Reading) → steps_from h (record_length (header_record h)) rest 0 ≡ x → Says h (record_length (header_record h)) rest x → SaysWhole bytes x
says_whole h bytes rest g fits z d (Accepted h' steps) e y =
    rw y.0 (record {
      header = g;
      ranged = y.1;
      short = fits;
      long = omega (arith, header_more h (steps_bytes steps), y.2, z.long);
      same = λ b. ap (λ l. record_bytes (header_record h) ++ l) (y.3 (z.others b)) ∙ sym (z.front b);
      after = ap (λ l. steps_from h (record_length (header_record h)) l 0) d ∙ e ∙ ap (λ (a : Header). Accepted a steps) y.0;
    })
says_whole h bytes rest g fits z d (Refused k at) e y =
    let place : at ≡ length (schedule_bytes h y.steps) = y.there ∙ header_more h (steps_bytes y.steps) in
    let split : AllBytes bytes → bytes ≡ schedule_bytes h y.steps ++ y.rest = λ b.
    z.front b ∙ ap (λ l. record_bytes (header_record h) ++ l) (y.split (z.others b)) ∙ sym (append_assoc (record_bytes (header_record h)) (steps_bytes y.steps) y.rest) in
    record {
      number = refused_number y.rest (Some h) (number.refused k 0) y.refused;
      some = refused_some y.rest (Some h) (number.refused k 0) y.refused;
      near = omega (arith, y.there, y.long, z.long);
      first = λ b. rw place (at_step h y.steps y.rest fits g y.ranged (split b) y.some y.refused);
    }

pub read_says : (bytes : List ℕ) → SaysWhole bytes (read_schedule bytes)
read_says bytes = by_length (ltb longest (length bytes)) refl
  where
    by_header : (x : Read) → length bytes ≤ longest → reader_answers bytes None ≡ x → SaysWhole bytes (steps_after bytes x)
    by_header (Ok (r, l)) fits e =
        let y = read_yielded bytes None r l e in
        let h : Header = record_header r in
        let placed : is_header r.kind ≡ true = and_left (is_header r.kind) _ y.follows in
        let ranged : header_in_range h ≡ true = rw placed at (and_right (is_header r.kind) _ y.follows) in
        let rest : List ℕ = drop l bytes in
        let x : Reading = steps_from h l rest 0 in
        let said : Says h (record_length (header_record h)) rest x = subst (λ p. Says h p rest x) y.size (read_from_lem h l rest) in
        says_whole h bytes rest ranged fits (record {
          long = omega (arith, y.size, y.fits, length-drop l bytes);
          front = y.front;
          others = all_drop l bytes;
        }) (ap (λ i. drop i bytes) (sym y.size)) x (ap (λ i. steps_from h i rest 0) (sym y.size)) said
    by_header (Err k) fits e =
        let here : k.value ≡ 0 = refused_at_first bytes None k e in
        record {
          number = refused_number bytes None k e;
          some = refused_some bytes None k e;
          near = omega arith;
          first = λ b. rw here (at_header fits (e ∙ ap (λ p. Err (number.refused k.refusal p)) here));
        }

    by_length : (b : Bool) → ltb longest (length bytes) ≡ b → SaysWhole bytes (cond b (Refused Refusal.EmptyOrTooLong 0) (steps_after bytes (reader_answers bytes None)))
    by_length true e = record { number = lit≤ tt; some = lit≤ tt; near = omega arith; first = λ b. too_long (ltb-true longest (length bytes) e) }
    by_length false e = by_header (reader_answers bytes None) (ltb-false longest (length bytes) e) refl

-- and the other way: a record that is refused after steps that are read

pub refused_first : (h : Header) (place : ℕ) (rest : List ℕ) (k : Refusal) → 0 < length rest → reader_answers rest (Some h) ≡ refused k
    → steps_from h place rest 0 ≡ Refused k place
unfolding steps_from
refused_first h place [] k some e = absurd (omega arith)
refused_first h place (x ∷ rest) k some e =
    ap (λ y. and_then place y (steps_from h (suc place) rest)) e ∙ ap (Refused k) (add-zero place)

still_refused : (steps : List Step) (k : Refusal) (place : ℕ) → with_steps steps (Refused k place) ≡ Refused k place
still_refused [] k place = refl
still_refused (s ∷ ss) k place = ap (with_step s) (still_refused ss k place)

pub refused_after : (h : Header) → header_in_range h ≡ true → (steps : List Step) → AllInRange h.n steps → (place : ℕ) (rest : List ℕ) (k : Refusal) → 0 < length rest
    → reader_answers rest (Some h) ≡ refused k → steps_from h place (steps_bytes steps ++ rest) 0 ≡ Refused k (place + length (steps_bytes steps))
refused_after h g steps q place rest k some e =
    first_steps h g steps q place rest
    ∙ ap (with_steps steps) (refused_first h (place + length (steps_bytes steps)) rest k some e)
    ∙ still_refused steps k (place + length (steps_bytes steps))
