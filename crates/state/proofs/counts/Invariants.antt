-- `state::counts` meets its contract, case by case. Assumes nothing.
use mathlib.Core.Path.{◌≡◌}
use Prim.Native.Nat.{suc, ◌-◌, ◌≤◌}
use lib.ListN.{length}
use Rattle.store.specs.Log.{places}
use Rattle.number.proofs.Table.{up_to}
use Rattle.state.specs.Fields.{count_in}
use Rattle.state.proofs.counts.Given as goal

abbrev pub invariant-loop-p : goal.invariant-loop-p
invariant-loop-p l = (l.p ≤ suc places) × (length l.initial.counts ≡ suc places) × (l.counts ≡ up_to l.p (count_in l.fields) l.initial.counts)

abbrev pub decreases-loop-p : goal.decreases-loop-p
decreases-loop-p l = suc places - l.p
