-- `state::put_messages` meets its contract, case by case. Assumes nothing.
use Prim.Native.Nat.{◌-◌, ◌≤◌}
use lib.ListN.{get_or}
use Rattle.state.specs.Types.{Release}
use Rattle.state.specs.Fields.{with_messages}
use Rattle.state.proofs.Filling.{UpTo}
use Rattle.state.proofs.put_messages.Given as goal

abbrev pub invariant-loop-k : goal.invariant-loop-k
invariant-loop-k l = (l.k ≤ 5) × UpTo with_messages (λ (r : Release). r.messages) (λ j. get_or l.messages j 0) l.k l.initial.fields l.fields

abbrev pub decreases-loop-k : goal.decreases-loop-k
decreases-loop-k l = 5 - l.k
