-- What holds while the schedules of a class file are added up: those before a place are counted, and read before the rest of the file they are the
-- whole. Assumes nothing.
use mathlib.Core.Path.{◌≡◌, refl, sym, ap, ap₂, subst, ◌∙◌}
use mathlib.Core.Bool.{cond}
use mathlib.Core.List.{List, [], ◌∷◌, ◌++◌, map, map-append, append_assoc, append-nil}
use Prim.Native.Nat.{ℕ, suc, ◌+◌, ◌*◌, ◌≤◌, ◌<◌}
use native.Mathlib.Omega.{arith}
use lib.Dec.{eqb, ltb}
use lib.ListN.{length, get_or, take, drop, length-append, length-drop, length-map, drop_of_length-le}
use lib.Seq.{drop-cons, drop-drop, length-take-le}
use Rattle.std.specs.Prelude.{Ok, Err}
use Rattle.number.specs.Refusal as number
use Rattle.number.specs.Table.{tabulate}
use Rattle.store.specs.Log.{places}
use Rattle.schedule.specs.Record.{longest}
use Rattle.schedule.specs.Schedule.{Reading, Accepted, Refused, read_schedule}
use Rattle.schedule.proofs.Reading.{SaysWhole, read_says}
use Rattle.passes.specs.Pass.{validated}
use Rattle.passes.proofs.Passed.{refused}
use Rattle.parts.specs.Parts.{parts, parts_up_to, part_length}
use Rattle.parts.proofs.Laws.{first_part, part_le}
use Rattle.figures.specs.Class.{Schedule, ClassReading, Class, NoClass, with_schedule, part_then, read_parts}
use Rattle.figures.specs.Sums.{sum, larger, largest, first_place}
use Rattle.figures.specs.Figures.{reports, reports_neither, calls_of, calls_in, column_of, sites_of, totals_of, figures_of, no_totals, no_column, with_mean, answer_with, refused_with, class_answer, class_answers}
use Rattle.figures.proofs.Sums.{sum_more, table_same, largest_more, first_more}
use Rattle.figures.proofs.Single.{schedule_most, read_whole}
use Rattle.figures.proofs.Kept.{read_parts_lem}
use Rattle.figures.proofs.Column.{column_total}
use Rattle.figures.proofs.Fits.{count_few, entry_few}
use Rattle.totals.specs.Types.{Context, Outcome, Refusal, Totals}
use Rattle.totals.specs.Adding.{schedule_of, schedule_added, calls_added, Room, Entries}
use Rattle.totals.proofs.Run.{accepted}

-- One schedule more

same_totals : {a b c d e f g a' b' c' d' e' f' g' : ℕ} → a ≡ a' → b ≡ b' → c ≡ c' → d ≡ d' → e ≡ e' → f ≡ f' → g ≡ g'
    → ◌≡◌ {A = Totals} (record { schedules = a; commit = b; abort = c; neither = d; largest = e; first = f; sites = g })
    (record { schedules = a'; commit = b'; abort = c'; neither = d'; largest = e'; first = f'; sites = g' })
same_totals p q r s t u v = rw (p, q, r, s, t, u, v) refl

module _ (ss : List Schedule) (s : Schedule) where
  mapped : (f : Schedule → ℕ) → sum (map f (ss ++ (s ∷ []))) ≡ sum (map f ss) + f s
  mapped f = ap sum (map-append f ss (s ∷ [])) ∙ sum_more (map f ss) (f s)

  largest_mapped : (f : Schedule → ℕ) → largest (map f (ss ++ (s ∷ []))) ≡ larger (largest (map f ss)) (f s)
  largest_mapped f = ap largest (map-append f ss (s ∷ [])) ∙ largest_more (map f ss) (f s)

  first_mapped : first_place (largest (map calls_in (ss ++ (s ∷ [])))) (map calls_in (ss ++ (s ∷ [])))
      ≡ cond (eqb (length ss) 0) 1 (cond (ltb (largest (map calls_in ss)) (calls_in s)) (length ss + 1) (first_place (largest (map calls_in ss)) (map calls_in ss)))
  first_mapped =
      ap (λ (l : List ℕ). first_place (largest l) l) (map-append calls_in ss (s ∷ []))
      ∙ first_more (map calls_in ss) (calls_in s)
      ∙ ap (λ k. cond (eqb k 0) 1 (cond (ltb (largest (map calls_in ss)) (calls_in s)) (k + 1) (first_place (largest (map calls_in ss)) (map calls_in ss)))) (length-map ss calls_in)

  pub totals_more : schedule_added (totals_of ss) s ≡ totals_of (ss ++ (s ∷ []))
  totals_more =
      same_totals
      (omega (arith, length-append ss (s ∷ [])))
      (sym (mapped (λ s. cond (reports Outcome.Commit s) 1 0)))
      (sym (mapped (λ s. cond (reports Outcome.Abort s) 1 0)))
      (sym (mapped (λ s. cond (reports_neither s) 1 0)))
      (sym (largest_mapped calls_in))
      (sym first_mapped)
      (sym (largest_mapped sites_of))

  pub column_more : calls_added (column_of ss) (calls_of s) ≡ column_of (ss ++ (s ∷ []))
  column_more =
      table_same (suc places) (λ p. get_or (column_of ss) p 0 + calls_of s p) (λ p. sum (map (λ t. calls_of t p) (ss ++ (s ∷ []))))
      (λ p g. ap (λ k. k + calls_of s p) ((column_total ss).party p (omega arith)) ∙ sym (mapped (λ t. calls_of t p)))

-- Schedules that are read before others

abbrev pub before : List Schedule → ClassReading → ClassReading
before ds (Class ss) = Class (ds ++ ss)
before ds (NoClass k place) = NoClass k place

before_next : (ds : List Schedule) (s : Schedule) (x : ClassReading) → before ds (with_schedule s x) ≡ before (ds ++ (s ∷ [])) x
before_next ds s (Class ss) = ap Class (sym (append_assoc ds (s ∷ []) ss))
before_next ds s (NoClass k place) = refl

before_none : (x : ClassReading) → x ≡ before [] x
before_none (Class ss) = refl
before_none (NoClass k place) = refl

-- before the schedule that begins at `at`
pub record Counting (file : List ℕ) (t : Totals) (column : List ℕ) (at : ℕ) : Type 0 where
  pub within : at ≤ length file
  pub short : length file ≤ longest
  pub done : List Schedule
  pub counted : t ≡ totals_of done
  pub added : column ≡ column_of done
  pub few : 3 * (length done + sum (map calls_in done)) ≤ at
  pub some : at ≤ length done * longest
  pub reads : read_parts 0 (parts file) ≡ before done (read_parts at (parts (drop at file)))

-- of none
no_totals_lem : no_totals ≡ totals_of []
unfolding sum largest first_place
no_totals_lem = refl

no_column_lem : no_column ≡ column_of []
unfolding sum tabulate
no_column_lem = refl

pub set_out : (file : List ℕ) → length file ≤ longest → Counting file no_totals no_column 0
unfolding sum
set_out file short =
    record {
      within = omega arith;
      short = short;
      done = [];
      counted = no_totals_lem;
      added = no_column_lem;
      few = omega arith;
      some = omega arith;
      reads = before_none (read_parts 0 (parts file));
    }

module _ {file : List ℕ} {t : Totals} {column : List ℕ} {at : ℕ} (g : Counting file t column at) where
  -- no total is too large
  pub room : Room t
  room =
      let most = g.few in
      let here = g.within in
      let short = g.short in
      subst Room (sym g.counted) (record {
        schedules = omega (arith, most, here, short);
        commit = omega (arith, most, here, short, count_few (reports Outcome.Commit) g.done);
        abort = omega (arith, most, here, short, count_few (reports Outcome.Abort) g.done);
        neither = omega (arith, most, here, short, count_few reports_neither g.done);
      })

  pub entries : Entries column
  entries = subst Entries (sym g.added) (record {
    parties = (column_total g.done).parties;
    few = λ p. omega (arith, g.few, g.within, g.short, entry_few g.done p);
  })

  module _ (more : at < length file) where
    abbrev size : ℕ
    size = part_length (drop at file)

    abbrev part : List ℕ
    part = take size (drop at file)

    here : drop at file ≡ get_or file at 0 ∷ drop (suc at) file
    here = drop-cons file at 0 more

    -- the schedule is not empty, and ends within the file

    pub size_some : 1 ≤ size
    size_some = rw here (omega arith)

    size_le : size ≤ length (drop at file)
    size_le = subst (λ (l : List ℕ). part_length l ≤ length l) (sym here) (part_le (get_or file at 0) (drop (suc at) file))

    pub size_fits : at + size ≤ length file
    size_fits = omega (arith, size_le, length-drop at file, more)

    part_length_lem : length part ≡ size
    part_length_lem = length-take-le size (drop at file) size_le

    -- it is read by itself, before those after it
    first : read_parts at (parts (drop at file)) ≡ part_then at (read_schedule part) (read_parts (at + size) (parts (drop (at + size) file)))
    unfolding read_parts
    first =
        ap (read_parts at) (subst (λ (l : List ℕ). parts l ≡ take (part_length l) l ∷ parts (drop (part_length l) l)) (sym here) (first_part (get_or file at 0) (drop (suc at) file)))
        ∙ ap₂ (λ (k : ℕ) (l : List ℕ). part_then at (read_schedule part) (read_parts (at + k) (parts l))) part_length_lem (drop-drop size at file)

    read_first : (x : Reading) → read_schedule part ≡ x → read_parts 0 (parts file) ≡ before g.done (part_then at x (read_parts (at + size) (parts (drop (at + size) file))))
    read_first x e = g.reads ∙ ap (before g.done) (first ∙ ap (λ (y : Reading). part_then at y (read_parts (at + size) (parts (drop (at + size) file)))) e)

    pub stops : (k : Refusal) (place : ℕ) → validated (read_schedule part) ≡ Err (number.refused k place)
        → (at + place ≤ longest + longest) × (refused_with k (at + place) ≡ class_answer (read_parts 0 (parts file)))
    stops k place v =
        let e = refused (read_schedule part) k place v in
        let near = (subst (SaysWhole part) e (read_says part)).near in
        (omega (arith, near, more, g.short), sym (ap class_answer (read_first (Refused k place) e)))

    module _ (c : Context) (m : ℕ) (v : validated (read_schedule part) ≡ Ok (c, m)) where
      abbrev this : Schedule
      this = schedule_of c part

      pub go_on : Counting file (schedule_added t this) (calls_added column (calls_of this)) (at + size)
      go_on =
          let e = accepted part c m v in
          let long = length-append g.done (this ∷ []) in
          record {
            within = size_fits;
            short = g.short;
            done = g.done ++ (this ∷ []);
            counted = ap (λ (u : Totals). schedule_added u this) g.counted ∙ totals_more g.done this;
            added = ap (λ (l : List ℕ). calls_added l (calls_of this)) g.added ∙ column_more g.done this;
            few = omega (arith, g.few, schedule_most part this e, part_length_lem, long, mapped g.done this calls_in);
            some = omega (arith, g.some, (read_whole part this e).short, part_length_lem, long);
            reads = read_first (Accepted c.header this.steps) e ∙ before_next g.done this (read_parts (at + size) (parts (drop (at + size) file)));
          }

  -- the total that is added from the column is that of the schedules
  figures_are : with_mean t column (sum column) ≡ figures_of g.done
  figures_are =
      ap₂ (λ (u : Totals) (l : List ℕ). with_mean u l (sum l)) g.counted g.added
      ∙ ap (with_mean (totals_of g.done) (column_of g.done)) (sym (column_total g.done).from_column)

  -- at the end
  pub arrived : length file ≤ at → 0 < length file → (0 < t.schedules) × (answer_with (with_mean t column (sum column)) ≡ class_answer (read_parts 0 (parts file)))
  unfolding read_parts parts_up_to
  arrived end some =
      let ds : List Schedule = g.done in
      let left : read_parts 0 (parts file) ≡ Class ds =
      g.reads ∙ ap (λ (l : List ℕ). before ds (read_parts at (parts l))) (drop_of_length-le file end) ∙ ap Class (append-nil ds) in
      (rw g.counted (omega (arith, g.some, end, some)), ap answer_with figures_are ∙ sym (ap class_answer left))

-- a file that is not empty and not too long
pub answered : (file : List ℕ) → length file ≤ longest → 0 < length file → class_answer (read_parts 0 (parts file)) ≡ class_answers file
answered file short some = sym (ap class_answer (read_parts_lem file short some))
