-- `state::put_counts` meets its contract, case by case. Assumes nothing.
use Prim.Native.Nat.{suc, ◌-◌, ◌≤◌}
use lib.ListN.{get_or}
use Rattle.store.specs.Log.{places}
use Rattle.state.specs.Types.{Release}
use Rattle.state.specs.Fields.{with_calls}
use Rattle.state.proofs.Filling.{UpTo}
use Rattle.state.proofs.put_counts.Given as goal

abbrev pub invariant-loop-p : goal.invariant-loop-p
invariant-loop-p l = (l.p ≤ suc places) × UpTo with_calls (λ (r : Release). r.calls) (λ j. get_or l.counts j 0) l.p l.initial.fields l.fields

abbrev pub decreases-loop-p : goal.decreases-loop-p
decreases-loop-p l = suc places - l.p
