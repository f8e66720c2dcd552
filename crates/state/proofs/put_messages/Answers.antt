-- `state::put_messages` meets its contract, case by case. Assumes nothing.
use mathlib.Core.Path.{refl}
use native.Mathlib.Omega.{arith}
use Rattle.state.specs.Types.{Release}
use Rattle.state.specs.Fields.{with_messages}
use Rattle.state.proofs.Filling.{one_message, all_put}
use Rattle.state.proofs.put_messages.Goals as goal

pub loop-k-preserved : goal.loop-k-preserved
loop-k-preserved c = (omega arith, one_message _ _ _ _ _ (omega arith) refl c.loop-k.invariant.1)

pub returns : goal.returns
returns c = all_put _ _ with_messages (λ (r : Release). r.messages) _ 5 _ c.loop-k.invariant.0 (omega arith) (λ r h. h.messages) c.loop-k.invariant.1
