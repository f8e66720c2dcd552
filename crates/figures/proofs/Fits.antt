-- The mean, the largest number of calls and the largest n are what they say, and no figure is too large. Assumes nothing.
use mathlib.Core.Path.{◌≡◌, sym, ap}
use mathlib.Core.Logic.{⊎_elim}
use mathlib.Core.Bool.{Bool, true, false, cond}
use mathlib.Core.List.{List, [], ◌∷◌, map, flatten}
use Prim.Native.Nat.{ℕ, suc, ◌+◌, ◌*◌, ◌≤◌, ◌<◌}
use native.Mathlib.Omega.{arith}
use native.Mathlib.Nat.{div-add-mod', mod-lt, div-le_self, mod-le}
use lib.ListN.{length, get_or, length-append, length-map}
use Rattle.store.specs.Log.{places}
use Rattle.schedule.specs.Record.{longest}
use Rattle.schedule.proofs.Laws.{header_size}
use Rattle.figures.specs.Types.{Outcome, Figures}
use Rattle.figures.specs.Class.{Schedule, Class, read_class}
use Rattle.figures.specs.Sums.{sum, larger, largest, first_place}
use Rattle.figures.specs.Figures.{reports, reports_neither, calls_in, column_of, sites_of, count_of, figures_of}
use Rattle.figures.specs.Promises.{EachRuns, no_more, runs_and_then, MeanExact, FirstLargest, LargestFirst, FiguresFit, LargestSites}
use Rattle.figures.proofs.Sums.{larger_cases, largest_sum, each_le_sum, first_few, first_largest}
use Rattle.figures.proofs.Single.{schedule_most, read_whole}
use Rattle.figures.proofs.Kept.{single_reports, class_kept}
use Rattle.figures.proofs.Column.{column_sum}

each_most : {ps : List (List ℕ)} {ss : List Schedule} → EachRuns ps ss → 3 * (length ss + sum (map calls_in ss)) ≤ length (flatten ps)
unfolding sum flatten
each_most no_more = omega arith
each_most (runs_and_then {part} {rest} {s} {ss} r rs) = omega (arith, length-append part (flatten rest), schedule_most part s r.accepted, each_most rs)

pub figures_fit : FiguresFit
figures_fit file ss e = omega (arith, each_most (single_reports file ss e), ap length (class_kept.whole file))

pub mean_exact : MeanExact
mean_exact file ss e =
    let some = (class_kept.in_range file ss e).1 in
    let calls : ℕ = sum (map calls_in ss) in
    (sym (div-add-mod' calls (length ss)), mod-lt calls some)

-- some schedule is the first with the largest number of a kind
first_of : (f : Schedule → ℕ) (ss : List Schedule) → 0 < length ss → FirstLargest (map f ss) (largest (map f ss)) (first_place (largest (map f ss)) (map f ss))
first_of f [] h = absurd (omega arith)
first_of f (s ∷ ss) h = first_largest (f s) (map f ss)

pub largest_first : LargestFirst
largest_first file ss e = first_of calls_in ss (class_kept.in_range file ss e).1

-- no schedule has more sites than there are places

larger_most : (a b k : ℕ) → a ≤ k → b ≤ k → larger a b ≤ k
larger_most a b k x y = ⊎_elim (λ e. omega (arith, e.1, y)) (λ e. omega (arith, e.1, x)) (larger_cases a b)

each_sites : {ps : List (List ℕ)} {ss : List Schedule} → EachRuns ps ss → largest (map sites_of ss) ≤ places
unfolding largest
each_sites no_more = omega arith
each_sites (runs_and_then {part} {rest} {s} {ss} r rs) =
    larger_most (sites_of s) (largest (map sites_of ss)) places (header_size s.header (read_whole part s r.accepted).header).1 (each_sites rs)

pub largest_sites : LargestSites
largest_sites file ss e =
    (each_sites (single_reports file ss e), (first_place (largest (map sites_of ss)) (map sites_of ss), first_of sites_of ss (class_kept.in_range file ss e).1))

-- no more schedules pass a test than there are
pub count_few : (test : Schedule → Bool) (ss : List Schedule) → count_of test ss ≤ length ss
unfolding sum
count_few test [] = omega arith
count_few test (s ∷ ss) = go (test s) (count_few test ss)
  where
    go : (b : Bool) → count_of test ss ≤ length ss → cond b 1 0 + count_of test ss ≤ suc (length ss)
    go true h = omega arith
    go false h = omega arith

-- so no figure is more than the longest file has bytes

-- an entry is no more than all of them
pub entry_few : (ss : List Schedule) (p : ℕ) → get_or (column_of ss) p 0 ≤ sum (map calls_in ss)
entry_few ss p = omega (arith, each_le_sum (column_of ss) p, column_sum ss)

pub record Small (f : Figures) : Type 0 where
  pub schedules : f.totals.schedules ≤ longest
  pub commit : f.totals.commit ≤ longest
  pub abort : f.totals.abort ≤ longest
  pub neither : f.totals.neither ≤ longest
  pub sites : f.totals.sites ≤ places
  pub column : (p : ℕ) → get_or f.column p 0 ≤ longest
  pub calls : f.calls ≤ longest
  pub mean : f.mean ≤ longest
  pub remainder : f.remainder ≤ longest
  pub largest : f.totals.largest ≤ longest
  pub first : f.totals.first ≤ longest

pub figures_small : (file : List ℕ) (ss : List Schedule) → read_class file ≡ Class ss → Small (figures_of ss)
figures_small file ss e =
    let fit = figures_fit file ss e in
    let short = (class_kept.in_range file ss e).2 in
    let calls : List ℕ = map calls_in ss in
    record {
      schedules = omega (arith, fit, short);
      commit = omega (arith, fit, short, count_few (reports Outcome.Commit) ss);
      abort = omega (arith, fit, short, count_few (reports Outcome.Abort) ss);
      neither = omega (arith, fit, short, count_few reports_neither ss);
      sites = (largest_sites file ss e).0;
      column = λ p. omega (arith, fit, short, entry_few ss p);
      calls = omega (arith, fit, short);
      mean = omega (arith, fit, short, div-le_self (sum calls) (length ss));
      remainder = omega (arith, fit, short, mod-le (sum calls) (length ss));
      largest = omega (arith, fit, short, largest_sum calls);
      first = omega (arith, fit, short, first_few (largest calls) calls, length-map ss calls_in);
    }
