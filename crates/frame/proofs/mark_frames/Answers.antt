-- `frame::mark_frames` meets its contract: at each turn one whole frame more has its line in the text. Assumes nothing.
use Prim.Native.Nat.{◌+◌, ◌≤◌}
use native.Mathlib.Omega.{arith}
use lib.ListN.{length, drop}
use borrow.Author.Rules.{rules}
use Rattle.frame.specs.Frame.{WholeFrame, longest_line}
use Rattle.frame.proofs.Frames.{found_in, mark_none, frame_within, mark_next}
use Rattle.frame.proofs.mark_frames.Goals as goal

pub loop-text-init : goal.loop-text-init
loop-text-init c = record {
  taken = search rules;
  fits = search rules;
  marking = mark_none c.args.input.now c.args.text.now c.args.report.now;
}

-- a whole frame stands at the front of what is left, and lies within the input
pub loop-text-preserved : goal.loop-text-preserved
loop-text-preserved c =
    let input = c.args.input.now in
    let inv = c.loop-text.invariant in
    let put = c.put_line-filled in
    let size = c.in-Some.size in
    let whole : WholeFrame (drop c.loop-text.used input) size = found_in input c.loop-text.used c.in-Some.is c.first_frame.ensures in
    let within = frame_within input c.loop-text.used size whole in
    let room : c.loop-text.filled + longest_line ≤ length c.args.text.now = omega arith in
    record {
      taken = omega (arith, within);
      fits = omega arith;
      marking = mark_next input c.loop-text.used size whole inv.marking room put.ensures.0 put.ensures.2;
    }
