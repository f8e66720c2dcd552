-- The text of an answer is the summary of its file, and a text of `longest_summary` bytes has room for every summary. Assumes nothing.
use mathlib.Core.Path.{◌≡◌, refl}
use mathlib.Core.List.{List}
use Prim.Native.Nat.{ℕ, suc, ◌+◌, ◌*◌, ◌≤◌, ◌<◌}
use native.Mathlib.Omega.{arith}
use native.Mathlib.Decide.{dec_lt}
use lib.ListN.{length, get_or, take, get_or-eq_default}
use lib.Seq.{take_all}
use Rattle.std.specs.Prelude.{IfOk}
use Rattle.number.specs.Refusal.{refusal_number}
use Rattle.number.proofs.Table.{get_d_tabulate}
use Rattle.text.specs.Text.{ascii, decimal}
use Rattle.text.proofs.Laws.{decimal_length, refusal_length}
use Rattle.text.proofs.Putting.{each_few}
use Rattle.store.specs.Log.{places}
use Rattle.schedule.specs.Record.{longest}
use Rattle.figures.specs.Class.{ClassReading, Class, NoClass, read_class}
use Rattle.figures.specs.Figures.{figures_of, class_answer, class_answers}
use Rattle.figures.proofs.Fits.{Small, figures_small}
use Rattle.figures.proofs.Refusals.{refusal_small}
use Rattle.summary.specs.Types.{Figures}
use Rattle.summary.specs.Summary.{number_text, line_text, party_text, party_line, parties, column_text, figures_text, class_text, summary, answer_text, longest_summary, SummaryFits}
use Rattle.summary.proofs.Column.{parties_long}
use Rattle.summary.proofs.Lengths.{number_long, line_long, counts_long, party_long, calls_long, mean_long, largest_long, figures_long}

-- An answer

pub answer_text_lem : (file : List ℕ) → answer_text (class_answers file) ≡ summary file
answer_text_lem file = go (read_class file)
  where
    go : (x : ClassReading) → answer_text (class_answer x) ≡ class_text x
    go (Class ss) = refl
    go (NoClass k place) = refl

-- no file has more sites than there are parties beside the coordinator
pub answer_sites : (file : List ℕ) → IfOk (class_answers file) (λ f. f.totals.sites ≤ places)
answer_sites file = go (read_class file) refl
  where
    go : (x : ClassReading) → read_class file ≡ x → IfOk (class_answer x) (λ f. f.totals.sites ≤ places)
    go (Class ss) e = (figures_small file ss e).sites
    go (NoClass k place) e = tt

-- Five digits are enough for every number

digits : (k : ℕ) → k < 100000 → length (decimal k) ≤ 5
digits k h = decimal_length 5 k (omega arith) (omega arith)

number_most : (word : List ℕ) (k : ℕ) → k ≤ longest → length (number_text word k) ≤ length word + 5
number_most word k h = omega (arith, number_long word k, digits k (omega arith))

line_most : (word : List ℕ) (k : ℕ) → k ≤ longest → length (line_text word k) ≤ length word + 6
line_most word k h = omega (arith, line_long word k, number_most word k h)

-- a line of a party, and of each up to the largest n

party_most : (p k : ℕ) → p ≤ places → k ≤ longest → length (party_text p k) ≤ 15
party_most p k small few =
    omega (arith, party_long p k, number_long (ascii "party ") p, decimal_length 2 p (omega arith) (omega arith), line_most (ascii " ") k few)

party_at : (sites i : ℕ) → get_or (parties sites) i 0 ≤ sites
party_at sites i = go (dec_lt i (suc sites))
  where
    go : Dec (i < suc sites) → get_or (parties sites) i 0 ≤ sites
    go (yes l) = omega (arith, get_d_tabulate (suc sites) (λ p. p) i 0 l)
    go (no ne) = omega (arith, get_or-eq_default (parties sites) 0 {n = i} (omega (arith, parties_long sites)))

column_most : (sites : ℕ) (column : List ℕ) → sites ≤ places → ((p : ℕ) → get_or column p 0 ≤ longest) → length (column_text sites column) ≤ 15 * suc sites
column_most sites column small few =
    let all : take (suc sites) (parties sites) ≡ parties sites = take_all (suc sites) (parties sites) (omega (arith, parties_long sites)) in
    rw all at (each_few (party_line column) 0 15 (suc sites) (parties sites) (λ i. party_most _ _ (omega (arith, party_at sites i, small)) (few _)))

figures_most : (f : Figures) → Small f → length (figures_text f) ≤ longest_summary
figures_most f s =
    omega (
      arith,
      figures_long f,
      counts_long f.totals,
      line_most (ascii "schedules ") f.totals.schedules s.schedules,
      line_most (ascii "commit ") f.totals.commit s.commit,
      line_most (ascii "abort ") f.totals.abort s.abort,
      line_most (ascii "neither ") f.totals.neither s.neither,
      calls_long f,
      line_most (ascii "calls ") f.calls s.calls,
      column_most f.totals.sites f.column s.sites s.column,
      s.sites,
      mean_long f.mean f.remainder f.totals.schedules,
      number_most (ascii "mean ") f.mean s.mean,
      number_most (ascii " ") f.remainder s.remainder,
      line_most (ascii "/") f.totals.schedules s.schedules,
      largest_long f.totals.largest f.totals.first,
      number_most (ascii "largest ") f.totals.largest s.largest,
      line_most (ascii " in ") f.totals.first s.first,
    )

pub summary_fits : SummaryFits
summary_fits file = go (read_class file) refl
  where
    go : (x : ClassReading) → read_class file ≡ x → length (class_text x) ≤ longest_summary
    go (Class ss) e = figures_most (figures_of ss) (figures_small file ss e)
    go (NoClass k place) e =
        let small = refusal_small file k place e in
        let number = digits (refusal_number k) (omega (arith, small.1)) in
        omega (arith, refusal_length (refusal_number k) place, number, digits place (omega (arith, small.2)))
