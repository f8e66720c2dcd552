-- A class file and its schedules: each is run by itself, and nothing is lost between them and the file's bytes, either way. Assumes nothing.
use mathlib.Core.Path.{◌≡◌, refl, sym, ap, ap₂, subst, ◌∙◌}
use mathlib.Core.Bool.{Bool, true, false, cond}
use mathlib.Core.List.{List, [], ◌∷◌, ◌++◌, map, flatten, append_assoc}
use Prim.Native.Nat.{ℕ, suc, ◌+◌, ◌≤◌, ◌<◌}
use native.Mathlib.Omega.{arith}
use native.Mathlib.Nat.{zero-add}
use lib.Dec.{eqb, ltb}
use lib.ListN.{length, take, drop, length-append}
use lib.Seq.{take_at, drop_at}
use borrow.Author.Tests.{le-ltb, ne_eqb, ltb-false, eqb-false}
use Rattle.std.specs.Prelude.{Ok}
use Rattle.kind.specs.Kind.{is_header, body_length}
use Rattle.kind.specs.Step.{step_kind}
use Rattle.kind.proofs.Numbers.{kind_numbers, step_no_header}
use Rattle.schedule.specs.Record.{header_in_range, longest, record_bytes, record_length, header_record, step_record}
use Rattle.schedule.specs.Schedule.{Reading, Accepted, Refused, read_schedule, steps_bytes}
use Rattle.schedule.specs.RoundTrip.{AllBytes}
use Rattle.schedule.proofs.Laws.{header_is}
use Rattle.schedule.proofs.Records.{record_length_lem, front_length}
use Rattle.schedule.proofs.RoundTrip.{steps_kept}
use Rattle.state.proofs.Filling.{fresh_places}
use Rattle.passes.specs.Pass.{fresh_of}
use Rattle.marker.specs.Run.{run_leaves}
use Rattle.marker.proofs.Left.{answers, report_left}
use Rattle.parts.specs.Parts.{parts, parts_up_to, part_length, rest_length}
use Rattle.parts.proofs.Laws.{first_part, whole, rest_within}
use Rattle.figures.specs.Types.{Kind, Step, Header, Record, Refusal}
use Rattle.figures.specs.Class.{Schedule, ClassReading, Class, NoClass, with_schedule, part_then, read_parts, read_class, bytes_of, class_bytes, AllSchedulesInRange}
use Rattle.figures.specs.Promises.{Runs, EachRuns, no_more, runs_and_then, SingleReports, ClassKept}
use Rattle.figures.proofs.Single.{report_long, read_whole}

-- Each schedule by itself

pub runs : (part : List ℕ) (s : Schedule) → read_schedule part ≡ Accepted s.header s.steps → Runs part s
runs part s e =
    let has = fresh_places s.header.n s.header.votes in
    let long = report_long s in
    record {
      accepted = e;
      answers = λ report room. answers fresh_of report e has (omega (arith, long)) ∙ ap Ok (sym long);
      leaves = λ report room. ap (λ k. take k (run_leaves report part)) long ∙ report_left fresh_of report e has (omega (arith, long));
    }

class_same : (xs ys : List Schedule) → Class xs ≡ Class ys → xs ≡ ys
class_same xs ys e = cc

class_refused : {A : Type 0} (k : Refusal) (place : ℕ) (ys : List Schedule) → NoClass k place ≡ Class ys → A
class_refused k place ys e = let z : ◌≡◌ {A = ℕ} 0 1 = cc in absurd (omega arith)

read_each : (place : ℕ) (ps : List (List ℕ)) (ss : List Schedule) → read_parts place ps ≡ Class ss → EachRuns ps ss
unfolding read_parts
read_each place [] ss e = subst (EachRuns []) (class_same [] ss e) no_more
read_each place (part ∷ ps) ss e = go (read_schedule part) refl (read_parts (place + length part) ps) (read_each (place + length part) ps) e
  where
    go : (x : Reading) → read_schedule part ≡ x → (y : ClassReading) → ((ts : List Schedule) → y ≡ Class ts → EachRuns ps ts) → part_then place x y ≡ Class ss → EachRuns (part ∷ ps) ss
    go (Accepted h steps) q (Class ts) ih e =
        subst (EachRuns (part ∷ ps)) (class_same (record { header = h; steps = steps } ∷ ts) ss e) (runs_and_then (runs part (record { header = h; steps = steps }) q) (ih ts refl))
    go (Accepted h steps) q (NoClass k p) ih e = class_refused k p ss e
    go (Refused k p) q y ih e = class_refused k _ ss e

-- an accepted file is not empty and not too long
accepted_file : (file : List ℕ) (ss : List Schedule) → read_class file ≡ Class ss → (length file ≤ longest) × (0 < length file) × (read_parts 0 (parts file) ≡ Class ss)
accepted_file file ss e = go (ltb longest (length file)) refl (eqb (length file) 0) refl e
  where
    go : (a : Bool) → ltb longest (length file) ≡ a → (b : Bool) → eqb (length file) 0 ≡ b
        → cond a (NoClass Refusal.EmptyOrTooLong 0) (cond b (NoClass Refusal.EmptyOrTooLong 0) (read_parts 0 (parts file))) ≡ Class ss
        → (length file ≤ longest) × (0 < length file) × (read_parts 0 (parts file) ≡ Class ss)
    go true p b q e = class_refused Refusal.EmptyOrTooLong 0 ss e
    go false p true q e = class_refused Refusal.EmptyOrTooLong 0 ss e
    go false p false q e = let some = eqb-false (length file) 0 q in (ltb-false longest (length file) p, omega (arith, some), e)

pub single_reports : SingleReports
single_reports file ss e = read_each 0 (parts file) ss (accepted_file file ss e).2

pub each_ranged : {ps : List (List ℕ)} {ss : List Schedule} → EachRuns ps ss → AllSchedulesInRange ss
each_ranged no_more = tt
each_ranged (runs_and_then {part} {rest} {s} {ss} r rs) = let x = read_whole part s r.accepted in ((x.header, x.ranged), each_ranged rs)

all_front : (xs ys : List ℕ) → AllBytes (xs ++ ys) → AllBytes xs × AllBytes ys
all_front [] ys b = (tt, b)
all_front (x ∷ xs) ys b = let z = all_front xs ys b.1 in ((b.0, z.0), z.1)

each_bytes : {ps : List (List ℕ)} {ss : List Schedule} → EachRuns ps ss → AllBytes (flatten ps) → class_bytes ss ≡ flatten ps
unfolding flatten
each_bytes no_more b = refl
each_bytes (runs_and_then {part} {rest} {s} {ss} r rs) b =
    let z = all_front part (flatten rest) b in
    ap₂ (λ (x y : List ℕ). x ++ y) ((read_whole part s r.accepted).same z.0) (each_bytes rs z.1)

-- A list of schedules that is in range makes a file

-- what follows the kind's byte
abbrev body : Record → List ℕ
body r = drop 1 (record_bytes r)

-- a record is passed over by its length
record_passed : (r : Record) (rest : List ℕ) → suc (rest_length (body r ++ rest) (body_length r.kind)) ≡ record_length r + rest_length rest 0
record_passed r rest =
    let long : length (body r) ≡ body_length r.kind = omega (arith, record_length_lem r) in
    let e = rest_within (body r ++ rest) (body_length r.kind) (omega (arith, length-append (body r) rest, long)) in
    omega (arith, e, ap (λ (l : List ℕ). rest_length l 0) (drop_at (body r) rest (body_length r.kind) long))

first_passed : (r : Record) (rest : List ℕ) → part_length (record_bytes r ++ rest) ≡ record_length r + rest_length rest 0
first_passed r rest = ap (λ k. suc (rest_length (body r ++ rest) (body_length k))) (kind_numbers.decoded r.kind) ∙ record_passed r rest

-- where a schedule goes on, a header ends it and a step's record is passed over
next_record : (r : Record) (rest : List ℕ)
    → rest_length (record_bytes r ++ rest) 0 ≡ cond (is_header r.kind) 0 (suc (rest_length (body r ++ rest) (body_length r.kind)))
unfolding rest_length
next_record r rest = ap (λ (k : Kind). cond (is_header k) 0 (suc (rest_length (body r ++ rest) (body_length k)))) (kind_numbers.decoded r.kind)

step_passed : (s : Step) (rest : List ℕ) → rest_length (record_bytes (step_record s) ++ rest) 0 ≡ record_length (step_record s) + rest_length rest 0
step_passed s rest =
    let r : Record = step_record s in
    next_record r rest
    ∙ ap (λ b. cond b 0 (suc (rest_length (body r ++ rest) (body_length (step_kind s))))) (step_no_header s)
    ∙ record_passed r rest

steps_passed : (steps : List Step) (rest : List ℕ) → rest_length (steps_bytes steps ++ rest) 0 ≡ length (steps_bytes steps) + rest_length rest 0
steps_passed [] rest = sym (zero-add (rest_length rest 0))
steps_passed (s ∷ ss) rest =
    ap (λ (l : List ℕ). rest_length l 0) (append_assoc (record_bytes (step_record s)) (steps_bytes ss) rest)
    ∙ omega (arith, step_passed s (steps_bytes ss ++ rest), steps_passed ss rest, front_length (step_record s) (steps_bytes ss))

header_ends : (h : Header) → header_in_range h ≡ true → (rest : List ℕ) → rest_length (record_bytes (header_record h) ++ rest) 0 ≡ 0
header_ends h q rest =
    let r : Record = header_record h in
    next_record r rest ∙ ap (λ b. cond b 0 (suc (rest_length (body r ++ rest) (body_length r.kind)))) (header_is h q)

schedule_passed : (s : Schedule) (rest : List ℕ) → part_length (bytes_of s ++ rest) ≡ length (bytes_of s) + rest_length rest 0
schedule_passed s rest =
    let r : Record = header_record s.header in
    ap part_length (append_assoc (record_bytes r) (steps_bytes s.steps) rest)
    ∙ omega (arith, first_passed r (steps_bytes s.steps ++ rest), steps_passed s.steps rest, front_length r (steps_bytes s.steps))

class_ends : (ss : List Schedule) → AllSchedulesInRange ss → rest_length (class_bytes ss) 0 ≡ 0
unfolding rest_length flatten
class_ends [] q = refl
class_ends (s ∷ ss) q =
    ap (λ (l : List ℕ). rest_length l 0) (append_assoc (record_bytes (header_record s.header)) (steps_bytes s.steps) (class_bytes ss)) ∙ header_ends s.header q.0.0 (steps_bytes s.steps ++ class_bytes ss)

-- the first part of a file that is not empty
pub first_of : (file : List ℕ) → 0 < length file → parts file ≡ take (part_length file) file ∷ parts (drop (part_length file) file)
first_of [] h = absurd (omega arith)
first_of (x ∷ file) h = first_part x file

some_bytes : (s : Schedule) (rest : List ℕ) → 0 < length (bytes_of s ++ rest)
some_bytes s rest = omega (arith, length-append (bytes_of s) rest, front_length (header_record s.header) (steps_bytes s.steps))

pub parts_bytes : (ss : List Schedule) → AllSchedulesInRange ss → parts (class_bytes ss) ≡ map bytes_of ss
unfolding parts_up_to flatten
parts_bytes [] q = refl
parts_bytes (s ∷ ss) q =
    let file : List ℕ = bytes_of s ++ class_bytes ss in
    let long : length (bytes_of s) ≡ part_length file = omega (arith, schedule_passed s (class_bytes ss), class_ends ss q.1) in
    first_of file (some_bytes s (class_bytes ss))
    ∙ ap₂ (λ (x : List ℕ) (y : List ℕ). x ∷ parts y) (take_at (bytes_of s) (class_bytes ss) (part_length file) long) (drop_at (bytes_of s) (class_bytes ss) (part_length file) long)
    ∙ ap (λ (l : List (List ℕ)). bytes_of s ∷ l) (parts_bytes ss q.1)

-- and each is read back
read_back : (place : ℕ) (ss : List Schedule) → AllSchedulesInRange ss → length (class_bytes ss) ≤ longest → read_parts place (map bytes_of ss) ≡ Class ss
unfolding read_parts flatten
read_back place [] q fits = refl
read_back place (s ∷ ss) q fits =
    let both = length-append (bytes_of s) (class_bytes ss) in
    ap (λ (x : Reading). part_then place x (read_parts (place + length (bytes_of s)) (map bytes_of ss))) (steps_kept s.header s.steps q.0.0 q.0.1 (omega (arith, both, fits)))
    ∙ ap (with_schedule s) (read_back (place + length (bytes_of s)) ss q.1 (omega (arith, both, fits)))

class_some : (file : List ℕ) (ss : List Schedule) → EachRuns (parts file) ss → 0 < length file → 0 < length ss
class_some file ss r h = go (parts file) (first_of file h) ss r
  where
    go : (ps : List (List ℕ)) → {x : List ℕ} {y : List (List ℕ)} → ps ≡ x ∷ y → (ss : List Schedule) → EachRuns ps ss → 0 < length ss
    go [] e ss r = let z : ◌≡◌ {A = ℕ} 0 1 = cc in absurd (omega arith)
    go (p ∷ ps) e [] r = elim r [ ]
    go (p ∷ ps) e (s ∷ ss) (runs_and_then a b) = omega arith

-- a file that is not empty and not too long is read by its parts
pub read_parts_lem : (file : List ℕ) → length file ≤ longest → 0 < length file → read_class file ≡ read_parts 0 (parts file)
read_parts_lem file short some =
    ap (λ b. cond b (NoClass Refusal.EmptyOrTooLong 0) (cond (eqb (length file) 0) (NoClass Refusal.EmptyOrTooLong 0) (read_parts 0 (parts file))))
    (le-ltb longest (length file) short)
    ∙ ap (λ b. cond b (NoClass Refusal.EmptyOrTooLong 0) (read_parts 0 (parts file))) (ne_eqb (length file) 0 (λ e. omega (arith, e, some)))

some_class : (ss : List Schedule) → 0 < length ss → 0 < length (class_bytes ss)
unfolding flatten
some_class [] h = absurd (omega arith)
some_class (s ∷ ss) h = some_bytes s (class_bytes ss)

read_class_lem : (ss : List Schedule) → AllSchedulesInRange ss → 0 < length ss → length (class_bytes ss) ≤ longest → read_class (class_bytes ss) ≡ Class ss
read_class_lem ss q some fits = read_parts_lem (class_bytes ss) fits (some_class ss some) ∙ ap (read_parts 0) (parts_bytes ss q) ∙ read_back 0 ss q fits

pub class_kept : ClassKept
class_kept =
    record {
      whole = whole;
      bytes_kept = λ file b ss e. each_bytes (single_reports file ss e) (rw (whole file) b) ∙ whole file;
      in_range = λ file ss e. let x = accepted_file file ss e in
          (each_ranged (single_reports file ss e), class_some file ss (single_reports file ss e) x.1, x.0);
      accepted_kept = λ ps ss r b some fits. let same = each_bytes r b in
          rw (← same) (read_class_lem ss (each_ranged r) some (omega (arith, ap length same, fits)));
      schedules_kept = read_class_lem;
    }
