-- What is promised of class figures, for every file: they are taken from the single runs, nothing of a file is lost, a refusal is the first from the
-- left, each schedule counts once, no figure is too large, and the calls are the same by party and by schedule. Proved in proofs/. Assumes nothing.
use Rattle.std.specs.Prelude.{◌≡◌, true, false, cond, ◌&&◌, ℕ, suc, ◌+◌, ◌-◌, ◌*◌, ◌≤◌, ◌<◌, length, get_or, take, Ok}
use mathlib.Core.List.{List, [], ◌∷◌, ◌++◌, flatten, map}
use Rattle.number.specs.Refusal.{refusal_number}
use Rattle.store.specs.Log.{places}
use Rattle.kind.specs.Kind.{kind_of, is_header}
use Rattle.schedule.specs.Record.{longest}
use Rattle.schedule.specs.Schedule.{Accepted, Refused, read_schedule}
use Rattle.schedule.specs.RoundTrip.{AllBytes}
use Rattle.rules.specs.Step.{step, is_due}
use Rattle.rules.specs.OneParty.{makes_call}
use Rattle.rules.specs.Run.{calls_made}
use Rattle.passes.specs.Pass.{fresh_of}
use Rattle.marker.specs.Run.{run_answers, run_leaves}
use Rattle.parts.specs.Parts.{parts}
use Rattle.figures.specs.Types.{Step, Release, Outcome, Figures, Refusal}
use Rattle.figures.specs.Class.{Schedule, Class, NoClass, read_class, bytes_of, class_bytes, ScheduleInRange, AllSchedulesInRange}
use Rattle.figures.specs.Sums.{sum}
use Rattle.figures.specs.Figures.{report_of, reports, calls_of, calls_in, sites_of, figures_of, answer_with, refused_with, class_answers}

-- "Each total is shown equal to the same figure taken from the single reports": each schedule of an accepted file is accepted by itself, and wherever
-- there is room the marker leaves the report that the figures are taken from

pub record Runs (part : List ℕ) (s : Schedule) : Type 0 where
  pub accepted : read_schedule part ≡ Accepted s.header s.steps
  pub answers : (report : List ℕ) → length (report_of s) ≤ length report → run_answers (length report) part ≡ Ok (length (report_of s))
  pub leaves : (report : List ℕ) → length (report_of s) ≤ length report → take (length (report_of s)) (run_leaves report part) ≡ report_of s

-- one after another
pub data EachRuns : List (List ℕ) → List Schedule → Type 0 where
  no_more : EachRuns [] []
  runs_and_then : {part : List ℕ} {rest : List (List ℕ)} {s : Schedule} {ss : List Schedule} → Runs part s → EachRuns rest ss → EachRuns (part ∷ rest) (s ∷ ss)

abbrev pub SingleReports : Type 0
SingleReports = (file : List ℕ) (ss : List Schedule) → read_class file ≡ Class ss → EachRuns (parts file) ss

-- the calls in a schedule's report are the due store calls of the rules: those of a party, and all of them, each step that makes one counted once

abbrev pub due_calls : Release → List Step → ℕ
due_calls r [] = 0
due_calls r (s ∷ ss) = cond (makes_call s && is_due r s) 1 0 + due_calls (step r s).next ss

pub record CallsByRules : Type 0 where
  pub party : (s : Schedule) → ScheduleInRange s → length (bytes_of s) ≤ longest
      → (p : ℕ) → p ≤ places → calls_of s p ≡ calls_made p (fresh_of s.header) s.steps
  pub all : (s : Schedule) → ScheduleInRange s → length (bytes_of s) ≤ longest → calls_in s ≡ due_calls (fresh_of s.header) s.steps

-- "A header inside it begins the next schedule": nothing is lost between a file and its schedules, either way

pub record ClassKept : Type 0 where
  -- a file's parts, put one after another, are the file; and so are the bytes of the schedules that are read
  pub whole : (file : List ℕ) → flatten (parts file) ≡ file
  pub bytes_kept : (file : List ℕ) → AllBytes file → (ss : List Schedule) → read_class file ≡ Class ss → class_bytes ss ≡ file
  -- each schedule is in range, there is one at least, and they fit
  pub in_range : (file : List ℕ) (ss : List Schedule) → read_class file ≡ Class ss → AllSchedulesInRange ss × (0 < length ss) × (length file ≤ longest)
  -- schedules that are accepted by themselves make an accepted file, where they fit; and so does every list of schedules in range
  pub accepted_kept : (ps : List (List ℕ)) (ss : List Schedule) → EachRuns ps ss → AllBytes (flatten ps) → 0 < length ss → length (flatten ps) ≤ longest
      → read_class (flatten ps) ≡ Class ss
  pub schedules_kept : (ss : List Schedule) → AllSchedulesInRange ss → 0 < length ss → length (class_bytes ss) ≤ longest → read_class (class_bytes ss) ≡ Class ss

-- Refusals: empty, too long; or, after schedules that are accepted by themselves, one that is not. The place counts in the file

pub record StopsAt (file : List ℕ) (k : Refusal) (place : ℕ) : Type 0 where
  pub before : List (List ℕ)
  pub done : List Schedule
  pub part : List ℕ
  pub rest : List (List ℕ)
  pub within : ℕ
  pub cut : parts file ≡ before ++ (part ∷ rest)
  pub runs : EachRuns before done
  pub refused : read_schedule part ≡ Refused k within
  pub there : place ≡ length (flatten before) + within

pub data ClassRefusalOf (file : List ℕ) : Refusal → ℕ → Type 0 where
  class_too_long : longest < length file → ClassRefusalOf file Refusal.EmptyOrTooLong 0
  class_empty : length file ≡ 0 → ClassRefusalOf file Refusal.EmptyOrTooLong 0
  at_schedule : {k : Refusal} {place : ℕ} → length file ≤ longest → StopsAt file k place → ClassRefusalOf file k place

pub record FirstClassRefusal : Type 0 where
  pub found : (file : List ℕ) (k : Refusal) (place : ℕ) → read_class file ≡ NoClass k place → ClassRefusalOf file k place
  pub given : (file : List ℕ) (k : Refusal) (place : ℕ) → ClassRefusalOf file k place → read_class file ≡ NoClass k place

-- What the entry answers: 0 and the figures of the schedules that are read; or the refusal, whose number is never 0, without a figure
pub record ClassAnswered : Type 0 where
  pub figures : (file : List ℕ) (ss : List Schedule) → read_class file ≡ Class ss → class_answers file ≡ answer_with (figures_of ss)
  pub refusal : (file : List ℕ) (k : Refusal) (place : ℕ) → read_class file ≡ NoClass k place → class_answers file ≡ refused_with k place
  pub number : (file : List ℕ) (k : Refusal) (place : ℕ) → read_class file ≡ NoClass k place
      → (1 ≤ refusal_number k) × (refusal_number k ≤ refusal_number Refusal.OutOfRange)

-- "with 4 only for a file that doesn't begin with a header"
abbrev pub HeaderFirst : Type 0
HeaderFirst =
    (file : List ℕ) (place : ℕ) → read_class file ≡ NoClass Refusal.HeaderMisplaced place
    → (place ≡ 0) × (is_header (kind_of (get_or file 0 0)) ≡ false)

-- No schedule counts under commit and under abort, by demand 3; so each counts once

abbrev pub NotBoth : Schedule → Type 0
NotBoth s = reports Outcome.Commit s ≡ true → reports Outcome.Abort s ≡ true → ⊥

abbrev pub EachOnce : Figures → Type 0
EachOnce f = f.totals.commit + (f.totals.abort + f.totals.neither) ≡ f.totals.schedules

pub record CountsOnce : Type 0 where
  pub not_both : (s : Schedule) → ScheduleInRange s → length (bytes_of s) ≤ longest → NotBoth s
  pub once : (file : List ℕ) (ss : List Schedule) → read_class file ≡ Class ss → EachOnce (figures_of ss)

-- "The mean as a whole part and a remainder over the number of schedules"

abbrev pub MeanOf : Figures → Type 0
MeanOf f = (f.calls ≡ f.mean * f.totals.schedules + f.remainder) × (f.remainder < f.totals.schedules)

abbrev pub MeanExact : Type 0
MeanExact = (file : List ℕ) (ss : List Schedule) → read_class file ≡ Class ss → MeanOf (figures_of ss)

-- "The largest number of calls and the first schedule that has it, counted from 1": that schedule has it, none has more, and those before have fewer

pub record FirstLargest (numbers : List ℕ) (most first : ℕ) : Type 0 where
  pub counted : (0 < first) × (first ≤ length numbers)
  pub there : get_or numbers (first - 1) 0 ≡ most
  pub none_above : (i : ℕ) → get_or numbers i 0 ≤ most
  pub fewer_before : (i : ℕ) → suc i < first → get_or numbers i 0 < most

abbrev pub LargestFirst : Type 0
LargestFirst =
    (file : List ℕ) (ss : List Schedule) → read_class file ≡ Class ss → FirstLargest (map calls_in ss) (figures_of ss).totals.largest (figures_of ss).totals.first

-- A header and a store call have a record of three bytes at least: so no sum is too large for its number
abbrev pub FiguresFit : Type 0
FiguresFit =
    (file : List ℕ) (ss : List Schedule) → read_class file ≡ Class ss → 3 * ((figures_of ss).totals.schedules + (figures_of ss).calls) ≤ length file

-- Request 2026-07, "for each party 0 to 32, its calls over all schedules": of any schedules

pub record ColumnAdded (ss : List Schedule) (f : Figures) : Type 0 where
  pub parties : length f.column ≡ suc places
  -- each entry is the figure taken from the single reports
  pub party : (p : ℕ) → p ≤ places → get_or f.column p 0 ≡ sum (map (λ s. calls_of s p) ss)
  -- "The grand total is added from the column, and is shown equal for every file to adding schedule by schedule"
  pub from_column : f.calls ≡ sum f.column
  pub by_schedule : f.calls ≡ sum (map calls_in ss)

abbrev pub ColumnTotal : Type 0
ColumnTotal = (ss : List Schedule) → ColumnAdded ss (figures_of ss)

-- of a file: an entry is what the rules count for that party, and 0 where no schedule has it; the parties up to the largest n have all calls

pub record ColumnByRules : Type 0 where
  pub party : (file : List ℕ) (ss : List Schedule) → read_class file ≡ Class ss
      → (p : ℕ) → p ≤ places → get_or (figures_of ss).column p 0 ≡ sum (map (λ s. calls_made p (fresh_of s.header) s.steps) ss)
  pub beyond : (file : List ℕ) (ss : List Schedule) → read_class file ≡ Class ss
      → (p : ℕ) → (figures_of ss).totals.sites < p → get_or (figures_of ss).column p 0 ≡ 0
  pub up_to_sites : (file : List ℕ) (ss : List Schedule) → read_class file ≡ Class ss
      → sum (take (suc (figures_of ss).totals.sites) (figures_of ss).column) ≡ (figures_of ss).calls

-- the largest n: some schedule has it, and none has more
abbrev pub LargestSites : Type 0
LargestSites =
    (file : List ℕ) (ss : List Schedule) → read_class file ≡ Class ss
    → ((figures_of ss).totals.sites ≤ places) × ((first : ℕ) × FirstLargest (map sites_of ss) (figures_of ss).totals.sites first)
