-- Steps that are due in turn are those of which the marker reports none idle. Assumes nothing.
use mathlib.Core.Path.{◌≡◌, refl, sym, ap}
use mathlib.Core.Logic.{◌≢◌}
use mathlib.Core.Bool.{Bool, true, false, true≢false}
use mathlib.Core.List.{List, [], ◌∷◌}
use native.Mathlib.Omega.{arith}
use Rattle.rules.specs.Report.{moves, report_byte, step_byte}
use Rattle.rules.specs.Step.{step, is_due}
use Rattle.rules.proofs.Actions.{not_due_stays}
use Rattle.passes.specs.Pass.{step_bytes}
use Rattle.exercises.specs.Types.{Step, Release, Outcome, Report}
use Rattle.exercises.specs.Promises.{AllDue, NoneIdle, DueReported}

-- what moves has a byte of 1 at least, with the word `closed` or without
due_byte : (o : Outcome) (closed : Bool) → moves o ≡ true → report_byte o closed ≢ 0
due_byte Outcome.Idle closed h e = true≢false (sym h)
due_byte Outcome.Moved closed h e = omega (arith, e)
due_byte Outcome.Commit closed h e = omega (arith, e)
due_byte Outcome.Abort closed h e = omega (arith, e)

due_by_byte : (r : Release) (s : Step) → step_byte (step r s) ≢ 0 → is_due r s ≡ true
due_by_byte r s h = go (is_due r s) refl
  where
    go : (b : Bool) → is_due r s ≡ b → is_due r s ≡ true
    go true q = q
    go false q = absurd (h (ap (λ (t : Report). step_byte t) (not_due_stays r s q)))

none_idle : (r : Release) (steps : List Step) → AllDue r steps → NoneIdle (step_bytes r steps)
none_idle r [] h = tt
none_idle r (s ∷ ss) h = (due_byte (step r s).outcome (step r s).closed h.0, none_idle (step r s).next ss h.1)

all_due : (r : Release) (steps : List Step) → NoneIdle (step_bytes r steps) → AllDue r steps
all_due r [] h = tt
all_due r (s ∷ ss) h = (due_by_byte r s h.0, all_due (step r s).next ss h.1)

pub due_reported : DueReported
due_reported = record { none_idle = none_idle; all_due = all_due }
