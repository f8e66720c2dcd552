-- `sheet::put_steps` meets its contract: what is left to put, after what was put, is the whole. Assumes nothing.
use Rattle.std.proofs.Common.{sym, ◌∙◌}
use Rattle.sheet.proofs.Bytes.{put_choice, pass_choice}
use Rattle.sheet.proofs.put_steps.Goals as goal
use Rattle.sheet.proofs.put_steps.Goals.{then-in_range, else-in_range}

pub loop-c-preserved : goal.loop-c-preserved
loop-c-preserved c =
    let n = c.args.n in
    let g = c.loop-c.invariant in
    let below = c.loop-c-test.true in
    let r = c.choice-r in
    elim c.if-in_range.branch [
      | then-in_range w ↦
          rw (w.out-is, w.at-is, w.length-at.ensures, w.put.ensures)
          (put_choice n g below r.result r.ensures (sym c.in_range.ensures ∙ w.if-in_range.true))
      | else-in_range w ↦ rw (w.out-is, w.at-is) (pass_choice n g below r.result r.ensures (sym c.in_range.ensures ∙ w.if-in_range.false))
    ]
