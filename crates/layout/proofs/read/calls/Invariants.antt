-- `layout::read::calls` meets its contract. Assumes nothing.
use Rattle.std.proofs.Common.{◌≡◌, suc, ◌≤◌, length}
use Rattle.store.specs.Log.{places}
use Rattle.number.proofs.Table.{up_to}
use Rattle.form.specs.Form.{count_at}
use Rattle.layout.proofs.read.calls.Given as goal

abbrev pub invariant-loop-p : goal.invariant-loop-p
invariant-loop-p l = (l.p ≤ suc places) × (length l.initial.l ≡ suc places) × (l.l ≡ up_to l.p (count_at l.form l.bytes) l.initial.l)
