-- `Tail::participants_of` meets its contract, case by case. Assumes nothing.
use Rattle.std.proofs.Common.{refl, arith}
use Rattle.store.specs.Log.{places}
use Rattle.number.proofs.Table.{up_to_next, up_to_done}
use Rattle.tail.proofs.Tail.participants_of.Goals as goal

pub loop-i-preserved : goal.loop-i-preserved
loop-i-preserved c = (omega arith, refl, up_to_next _ _ _ _ _ c.loop-i.invariant.2 c.of.ensures)

pub returns : goal.returns
returns c = up_to_done places _ _ _ _ c.loop-i.invariant.0 (omega arith) refl c.loop-i.invariant.2
