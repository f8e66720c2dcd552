-- Requests 2026-06 and 2026-07, figures for a whole class, each taken from the single reports of its schedules. Assumes nothing.
use Rattle.std.specs.Prelude.{Bool, false, cond, not, ◌&&◌, ◌||◌, List, [], ◌∷◌, map, ℕ, suc, ◌/◌, ◌%◌, eqb, length, replicate, Result, Ok, Err}
use Rattle.number.specs.Refusal.{refused, accepted, refusal_number}
use Rattle.number.specs.Table.{tabulate}
use Rattle.store.specs.Log.{places}
use Rattle.rules.specs.Report.{outcome_number, outcome_in}
use Rattle.passes.specs.Pass.{fresh_of}
use Rattle.form.specs.Form.{form_of, count_at}
use Rattle.marker.specs.Report.{report_bytes, steps_left, tail_left}
use Rattle.figures.specs.Types.{Refusal, Refused, Outcome, Totals, Figures}
use Rattle.figures.specs.Class.{Schedule, ClassReading, Class, NoClass, read_class}
use Rattle.figures.specs.Sums.{sum, largest, first_place}

-- The report of a schedule, as the marker leaves it: a byte a step, then the tail

abbrev pub report_of : Schedule → List ℕ
report_of s = report_bytes s.header.kind (fresh_of s.header) s.steps

abbrev pub steps_reported : Schedule → List ℕ
steps_reported s = steps_left s.header (report_of s) (length (report_of s))

abbrev pub tail_reported : Schedule → List ℕ
tail_reported s = tail_left s.header (report_of s) (length (report_of s))

-- whether a byte says an outcome, and whether some byte does

abbrev pub says : Outcome → ℕ → Bool
says o b = eqb (outcome_number (outcome_in b)) (outcome_number o)

unfoldable pub said_in : Outcome → List ℕ → Bool
said_in o [] = false
said_in o (b ∷ bytes) = says o b || said_in o bytes

-- a schedule with that decision reported, by however many steps; and one with neither decision

abbrev pub reports : Outcome → Schedule → Bool
reports o s = said_in o (steps_reported s)

abbrev pub reports_neither : Schedule → Bool
reports_neither s = not (reports Outcome.Commit s) && not (reports Outcome.Abort s)

-- its store calls, of a party and of all of them, by the tail

abbrev pub calls_of : Schedule → ℕ → ℕ
calls_of s p = count_at (form_of s.header.kind) (tail_reported s) p

abbrev pub calls_in : Schedule → ℕ
calls_in s = sum (tabulate (suc places) (calls_of s))

-- how many sites it has: its n
abbrev pub sites_of : Schedule → ℕ
sites_of s = s.header.n

-- request 2026-07: for each party 0 to 32, its calls over all schedules
abbrev pub column_of : List Schedule → List ℕ
column_of ss = tabulate (suc places) (λ p. sum (map (λ s. calls_of s p) ss))

-- how many schedules pass a test
abbrev pub count_of : (Schedule → Bool) → List Schedule → ℕ
count_of test ss = sum (map (λ s. cond (test s) 1 0) ss)

abbrev pub totals_of : List Schedule → Totals
totals_of ss =
    record {
      schedules = length ss;
      commit = count_of (reports Outcome.Commit) ss;
      abort = count_of (reports Outcome.Abort) ss;
      neither = count_of reports_neither ss;
      largest = largest (map calls_in ss);
      first = first_place (largest (map calls_in ss)) (map calls_in ss);
      sites = largest (map sites_of ss);
    }

-- with all calls, and their mean as a whole part and a remainder over the number of schedules
abbrev pub with_mean : Totals → List ℕ → ℕ → Figures
with_mean t column calls = record { totals = t; column = column; calls = calls; mean = calls / t.schedules; remainder = calls % t.schedules }

abbrev pub figures_of : List Schedule → Figures
figures_of ss = with_mean (totals_of ss) (column_of ss) (sum (map calls_in ss))

-- the totals and the column of no schedule

abbrev pub no_totals : Totals
no_totals = record { schedules = 0; commit = 0; abort = 0; neither = 0; largest = 0; first = 0; sites = 0 }

abbrev pub no_column : List ℕ
no_column = replicate (suc places) 0

-- no figures come with a refusal
abbrev pub refused_with : Refusal → ℕ → Result Figures Refused
refused_with k place = Err (refused k place)

abbrev pub answer_with : Figures → Result Figures Refused
answer_with f = Ok f

abbrev pub class_answer : ClassReading → Result Figures Refused
class_answer (Class ss) = answer_with (figures_of ss)
class_answer (NoClass k place) = refused_with k place

-- the entry: a file's bytes in, its figures out
abbrev pub class_answers : List ℕ → Result Figures Refused
class_answers file = class_answer (read_class file)

-- What the entry hands over: 0 and the figures; or the refusal's number and its place, and no figures

pub record ClassHanded : Type 0 where
  pub number : ℕ
  pub place : ℕ
  pub figures : Figures

abbrev pub no_figures : Figures
no_figures = record { totals = no_totals; column = no_column; calls = 0; mean = 0; remainder = 0 }

abbrev pub reading_hands : ClassReading → ClassHanded
reading_hands (Class ss) = record { number = accepted; place = 0; figures = figures_of ss }
reading_hands (NoClass k place) = record { number = refusal_number k; place = place; figures = no_figures }

abbrev pub class_hands : List ℕ → ClassHanded
class_hands file = reading_hands (read_class file)
