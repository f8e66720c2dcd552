-- `totals::with_schedule` meets its contract: it is run, unless it has no steps, and what its report says is added. Assumes nothing.
use mathlib.Core.Path.{sym, ◌∙◌}
use Prim.Native.Nat.{◌≤◌}
use native.Mathlib.Omega.{arith}
use lib.ListN.{length}
use lib.Seq.{length-take-le}
use Rattle.totals.proofs.Run.{few_steps, bytes_front, added_is, none_added, none_counted}
use Rattle.totals.proofs.with_schedule.Goals as goal
use Rattle.totals.proofs.with_schedule.Goals.{After-run_schedule-calls}

-- the buffer has a byte for each step
fits : (c : After-run_schedule-calls) → c.args.steps ≤ length c.run_schedule-calls.new.bytes
fits c =
    let args = c.args in
    omega (arith, few_steps args.part.now args.context args.steps c.requires.0, c.requires.1, c.run_schedule-calls.auto)

pub returns-then-steps-eq0 : goal.returns-then-steps-eq0
returns-then-steps-eq0 c =
    let args = c.args in
    let none = c.if-steps-eq0.true in (
      c.with_one.ensures ∙ none_added args.part.now args.context args.steps c.requires.0 args.t none,
      none_counted args.part.now args.context args.steps c.requires.0 args.column.now c.requires.3.parties none,
    )

pub slice_bounds-report-end : goal.slice_bounds-report-end
slice_bounds-report-end c = fits (goal.at.slice_bounds-report-end c).After-run_schedule-calls

pub slice_bounds-report-end-2 : goal.slice_bounds-report-end-2
slice_bounds-report-end-2 c = sym (length-take-le _ _ (fits (goal.at.slice_bounds-report-end-2 c).After-run_schedule-calls))

pub returns : goal.returns
returns c =
    let args = c.args in
    let ran = c.run_schedule-calls in
    let bytes = bytes_front args.part.now args.context args.steps c.requires.0 args.bytes.now _ c.requires.1 ran.ensures.2 in (
      c.with_one-2.ensures
          ∙ added_is args.part.now args.context args.steps c.requires.0 args.t _ _ _ _ bytes c.said.ensures c.said-2.ensures ran.ensures.0,
      ran.ensures.1,
    )
