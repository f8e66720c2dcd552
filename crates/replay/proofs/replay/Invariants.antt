-- What is kept leaves room in the input.
use Rattle.std.proofs.Common.{◌<◌, length}
use Rattle.replay.proofs.replay.Given as goal

abbrev pub invariant-loop : goal.invariant-loop
invariant-loop g l = l.kept < length l.input
