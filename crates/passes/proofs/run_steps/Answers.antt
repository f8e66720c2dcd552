-- `passes::run_steps` meets its contract: what holds while the steps run stands in Going. Assumes nothing.
use mathlib.Core.Path.{sym, ap, ◌∙◌}
use Rattle.schedule.specs.Reader.{step_at, length_at}
use Rattle.call.proofs.Calling.{stays}
use Rattle.passes.proofs.Reading.{tail_part}
use Rattle.passes.proofs.Going.{Here, set_out, countable, ranged, has_room, go_on, here_read, arrived}
use Rattle.passes.proofs.run_steps.Goals as goal
use Rattle.passes.proofs.run_steps.Goals.{then-makes_call, else-makes_call}

pub loop-at-init : goal.loop-at-init
loop-at-init c = let args = c.args in set_out args.schedule.now args.start args.context args.count args.report.now args.numbers.now args.store c.requires.0 c.requires.1

pub with_call-stepped-requires : goal.with_call-stepped-requires
with_call-stepped-requires c =
    let x : Here c.loop-at.invariant c.loop-at-test.true = here_read c.loop-at.invariant c.loop-at-test.true in
    let same = c.step_at-s.ensures ∙ ap step_at (tail_part c.args.schedule.now c.loop-at.at) ∙ x.same_step in
    (rw same (ranged c.loop-at.invariant c.loop-at-test.true x.found x.size x.read), countable c.loop-at.invariant c.loop-at-test.true, sym c.makes_call.ensures ∙ c.if-makes_call.true)

pub without_call-requires : goal.without_call-requires
without_call-requires c =
    let x : Here c.loop-at.invariant c.loop-at-test.true = here_read c.loop-at.invariant c.loop-at-test.true in
    let same = c.step_at-s.ensures ∙ ap step_at (tail_part c.args.schedule.now c.loop-at.at) ∙ x.same_step in
    (rw same (ranged c.loop-at.invariant c.loop-at-test.true x.found x.size x.read), sym c.makes_call.ensures ∙ c.if-makes_call.false)

pub bounds-report-i : goal.bounds-report-i
bounds-report-i c = let x : Here c.loop-at.invariant c.loop-at-test.true = here_read c.loop-at.invariant c.loop-at-test.true in has_room c.loop-at.invariant c.loop-at-test.true x.found x.size x.read

pub bounds-report-i-else-makes_call : goal.bounds-report-i-else-makes_call
bounds-report-i-else-makes_call c = let x : Here c.loop-at.invariant c.loop-at-test.true = here_read c.loop-at.invariant c.loop-at-test.true in has_room c.loop-at.invariant c.loop-at-test.true x.found x.size x.read

pub loop-at-preserved : goal.loop-at-preserved
loop-at-preserved c =
    let x : Here c.loop-at.invariant c.loop-at-test.true = here_read c.loop-at.invariant c.loop-at-test.true in
    let same = c.step_at-s.ensures ∙ ap step_at (tail_part c.args.schedule.now c.loop-at.at) ∙ x.same_step in
    let size = c.length_at-size.ensures ∙ ap length_at (tail_part c.args.schedule.now c.loop-at.at) ∙ x.same_size in
    elim c.if-makes_call.branch [
      | then-makes_call w ↦
          rw (w.numbers-is, w.report-is, w.left-is, size, w.report_byte.ensures)
          (go_on c.loop-at.invariant c.loop-at-test.true x.found x.size x.read _ _ _ _ (rw same at w.with_call-stepped.ensures))
      | else-makes_call w ↦
          rw (w.numbers-is, w.report-is, w.left-is, size, w.report_byte-else-makes_call.ensures)
          (go_on c.loop-at.invariant c.loop-at-test.true x.found x.size x.read _ _ _ _ (stays _ _ _ _ _ _ (rw same at w.without_call.ensures)))
    ]

pub returns : goal.returns
returns c = arrived c.loop-at.invariant c.loop-at-test.false
