-- `frame::mark_frames` meets its contract: at each turn one whole frame more has its line in the text. Assumes nothing.
use Prim.Native.Nat.{◌-◌, ◌≤◌}
use lib.ListN.{length}
use Rattle.frame.proofs.Frames.{Marking}
use Rattle.frame.proofs.mark_frames.Given as goal

abbrev pub invariant-loop-text : goal.invariant-loop-text
invariant-loop-text l = record {
  taken : l.used ≤ length l.input;
  fits : l.filled ≤ length l.text;
  marking : Marking l.input l.initial.text l.initial.report l.used l.filled l.text l.report;
}

abbrev pub decreases-loop-text : goal.decreases-loop-text
decreases-loop-text l = length l.input - l.used
