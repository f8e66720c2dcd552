-- Each schedule counts once, since no report says commit and abort. Assumes nothing.
use mathlib.Core.Path.{◌≡◌, refl, sym, ap, subst, ◌∙◌}
use mathlib.Core.Bool.{Bool, true, false, cond, not, ◌&&◌, ◌||◌}
use mathlib.Core.List.{List, [], ◌∷◌}
use Prim.Native.Nat.{ℕ, suc, ◌+◌, ◌≤◌, ◌<◌}
use native.Mathlib.Omega.{arith}
use lib.ListN.{length, get_or}
use borrow.Author.Tests.{eqb-true}
use Rattle.schedule.specs.Record.{longest}
use Rattle.schedule.specs.Schedule.{steps_bytes}
use Rattle.schedule.proofs.Reading.{header_more}
use Rattle.rules.specs.Report.{outcome_number, outcome_in, outcome_of}
use Rattle.rules.proofs.Bytes.{outcome_numbers}
use Rattle.passes.specs.Pass.{fresh_of, step_bytes}
use Rattle.marker.specs.Demand.{Says}
use Rattle.marker.proofs.Demand.{run_holds}
use Rattle.marker.proofs.TailBytes.{run_few}
use Rattle.figures.specs.Types.{Outcome}
use Rattle.figures.specs.Class.{Schedule, bytes_of, ScheduleInRange}
use Rattle.figures.specs.Sums.{sum}
use Rattle.figures.specs.Figures.{says, said_in, reports, figures_of}
use Rattle.figures.specs.Promises.{EachRuns, no_more, runs_and_then, NotBoth, EachOnce, CountsOnce}
use Rattle.figures.proofs.Single.{steps_are, read_whole}
use Rattle.figures.proofs.Kept.{single_reports}

-- a byte says an outcome as in demand 3
byte_says : (o : Outcome) (b : ℕ) → says o b ≡ true → Says o b
byte_says o b e = sym (outcome_numbers.decoded (outcome_in b)) ∙ ap outcome_of (eqb-true (outcome_number (outcome_in b)) (outcome_number o) e) ∙ outcome_numbers.decoded o

-- what is said is said by some byte
said_at : (o : Outcome) (bytes : List ℕ) → said_in o bytes ≡ true → (i : ℕ) × (i < length bytes) × Says o (get_or bytes i 0)
unfolding said_in
said_at o [] e = let z : ◌≡◌ {A = ℕ} 0 1 = cc in absurd (omega arith)
said_at o (b ∷ bytes) e = go (says o b) refl e (said_at o bytes)
  where
    go : (t : Bool) → says o b ≡ t → t || said_in o bytes ≡ true → (said_in o bytes ≡ true → (i : ℕ) × (i < length bytes) × Says o (get_or bytes i 0))
        → (i : ℕ) × (i < suc (length bytes)) × Says o (get_or (b ∷ bytes) i 0)
    go true q e ih = (0, omega arith, byte_says o b q)
    go false q e ih = let x = ih e in (suc x.0, omega (arith, x.1), x.2)

one_once : (c a : Bool) → (c ≡ true → a ≡ true → ⊥) → cond c 1 0 + (cond a 1 0 + cond (not c && not a) 1 0) ≡ 1
one_once true true h = absurd (h refl refl)
one_once true false h = refl
one_once false true h = refl
one_once false false h = refl

-- by demand 3
not_both : (s : Schedule) → ScheduleInRange s → length (bytes_of s) ≤ longest → NotBoth s
not_both s q fits c a =
    let h = s.header in
    let few = run_few h s.steps (omega (arith, header_more h (steps_bytes s.steps))) in
    let bytes : List ℕ = step_bytes (fresh_of h) s.steps in
    let x = said_at Outcome.Commit bytes (subst (λ (l : List ℕ). said_in Outcome.Commit l ≡ true) (steps_are s) c) in
    let y = said_at Outcome.Abort bytes (subst (λ (l : List ℕ). said_in Outcome.Abort l ≡ true) (steps_are s) a) in
    (run_holds h s.steps q.0 q.1 few).demand.agree x.0 y.0 x.1 y.1 x.2 y.2

all_once : {ps : List (List ℕ)} {ss : List Schedule} → EachRuns ps ss → EachOnce (figures_of ss)
unfolding sum
all_once no_more = refl
all_once (runs_and_then {part} {rest} {s} {ss} r rs) =
    let x = read_whole part s r.accepted in
    let one = one_once (reports Outcome.Commit s) (reports Outcome.Abort s) (not_both s (x.header, x.ranged) (omega (arith, x.long, x.short))) in
    omega (arith, all_once rs, one)

pub counts_once : CountsOnce
counts_once = record { not_both = not_both; once = λ file ss e. all_once (single_reports file ss e) }
