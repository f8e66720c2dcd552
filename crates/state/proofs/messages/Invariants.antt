-- `state::messages` meets its contract, case by case. Assumes nothing.
use mathlib.Core.Path.{◌≡◌}
use Prim.Native.Nat.{◌-◌, ◌≤◌}
use lib.ListN.{length}
use Rattle.number.proofs.Table.{up_to}
use Rattle.state.specs.Fields.{message_in}
use Rattle.state.proofs.messages.Given as goal

abbrev pub invariant-loop-k : goal.invariant-loop-k
invariant-loop-k l = (l.k ≤ 5) × (length l.initial.messages ≡ 5) × (l.messages ≡ up_to l.k (message_in l.fields) l.initial.messages)

abbrev pub decreases-loop-k : goal.decreases-loop-k
decreases-loop-k l = 5 - l.k
