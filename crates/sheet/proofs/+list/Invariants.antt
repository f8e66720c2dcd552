-- `sheet::list` meets its contract: the measure is the number of steps left. What holds while they are tried stands in Levels. Assumes nothing.
use Prim.Native.Nat.{◌-◌}
use lib.ListN.{length}
use Rattle.sheet.proofs.Levels.{Trying}
use Rattle.sheet.proofs.+list.Given as goal

abbrev pub decreases-list : goal.decreases-list
decreases-list l = l.left

abbrev pub invariant-loop-c : goal.invariant-loop-c
invariant-loop-c l = Trying l.p l.numbers l.store l.steps l.context l.left l.initial.out l.at l.out l.now l.place l.c

abbrev pub decreases-loop-c : goal.decreases-loop-c
decreases-loop-c l = length l.steps - l.c
