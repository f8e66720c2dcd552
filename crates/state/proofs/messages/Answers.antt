-- `state::messages` meets its contract, case by case. Assumes nothing.
use mathlib.Core.Path.{refl}
use native.Mathlib.Omega.{arith}
use Rattle.number.proofs.Table.{up_to_next, up_to_done}
use Rattle.state.proofs.messages.Goals as goal

pub loop-k-preserved : goal.loop-k-preserved
loop-k-preserved c = (omega arith, refl, up_to_next _ _ _ _ _ c.loop-k.invariant.2 (refl))

pub returns : goal.returns
returns c = up_to_done 5 _ _ _ _ c.loop-k.invariant.0 (omega arith) refl c.loop-k.invariant.2
