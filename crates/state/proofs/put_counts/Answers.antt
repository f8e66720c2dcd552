-- `state::put_counts` meets its contract, case by case. Assumes nothing.
use mathlib.Core.Path.{refl}
use Prim.Native.Nat.{suc}
use native.Mathlib.Omega.{arith}
use Rattle.store.specs.Log.{places}
use Rattle.state.specs.Types.{Release}
use Rattle.state.specs.Fields.{with_calls}
use Rattle.state.proofs.Filling.{one_count, all_put}
use Rattle.state.proofs.put_counts.Goals as goal

pub loop-p-preserved : goal.loop-p-preserved
loop-p-preserved c = (omega arith, one_count _ _ _ _ _ (omega arith) refl c.loop-p.invariant.1)

pub returns : goal.returns
returns c = all_put _ _ with_calls (λ (r : Release). r.calls) _ (suc places) _ c.loop-p.invariant.0 (omega arith) (λ r h. h.calls) c.loop-p.invariant.1
