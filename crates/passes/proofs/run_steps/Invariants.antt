-- `passes::run_steps` meets its contract: what holds while the steps run stands in Going. Assumes nothing.
use Prim.Native.Nat.{◌-◌}
use lib.ListN.{length}
use Rattle.state.specs.Fields.{release_in}
use Rattle.passes.proofs.Going.{Going}
use Rattle.passes.proofs.run_steps.Given as goal

abbrev pub invariant-loop-at : goal.invariant-loop-at
invariant-loop-at l = Going l.schedule l.context l.start l.count (release_in l.initial.numbers l.initial.left) l.initial.report l.report l.at l.i l.numbers l.left

abbrev pub decreases-loop-at : goal.decreases-loop-at
decreases-loop-at l = length l.schedule - l.at
