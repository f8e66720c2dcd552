-- `layout::read::calls` meets its contract. Assumes nothing.
use Rattle.std.proofs.Common.{suc, refl, arith}
use Rattle.store.specs.Log.{places}
use Rattle.number.proofs.Table.{up_to_next, up_to_done}
use Rattle.layout.proofs.read.calls.Goals as goal

pub loop-p-preserved : goal.loop-p-preserved
loop-p-preserved c = (omega arith, refl, up_to_next _ _ _ _ _ c.loop-p.invariant.2 c.count.ensures)

pub returns : goal.returns
returns c = up_to_done (suc places) _ _ _ _ c.loop-p.invariant.0 (omega arith) refl c.loop-p.invariant.2
