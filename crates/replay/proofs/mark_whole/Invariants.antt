-- What is passed over is whole frames.
use Rattle.std.proofs.Common.{◌-◌, ◌≤◌, length, take}
use Rattle.frame.proofs.Frames.{Framed}
use Rattle.replay.proofs.mark_whole.Given as goal

abbrev pub invariant-parts : goal.invariant-parts
invariant-parts g l = (l.at ≤ length l.input) × Framed (take l.at l.input)

abbrev pub decreases-parts : goal.decreases-parts
decreases-parts g l = length l.input - l.at
