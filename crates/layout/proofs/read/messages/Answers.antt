-- `layout::read::messages` meets its contract. Assumes nothing.
use Rattle.std.proofs.Common.{refl, arith}
use Rattle.number.proofs.Table.{up_to_next, up_to_done}
use Rattle.rules.specs.State.{types}
use Rattle.form.proofs.Lengths.{slot}
use Rattle.layout.proofs.read.messages.Goals as goal

pub number-requires : goal.number-requires
number-requires c = (omega (arith, slot c.loop-k.k types c.args.form.width c.loop-k-test.true), c.requires.0.1)

pub loop-k-preserved : goal.loop-k-preserved
loop-k-preserved c = (omega arith, refl, up_to_next _ _ _ _ _ c.loop-k.invariant.2 (rw c.messages_at-start.ensures at c.number.ensures.0))

pub returns : goal.returns
returns c = up_to_done types _ _ _ _ c.loop-k.invariant.0 (omega arith) refl c.loop-k.invariant.2
