-- `layout::read::participants` meets its contract. Assumes nothing.
use Rattle.std.proofs.Common.{◌≡◌, ◌≤◌, length}
use Rattle.store.specs.Log.{places}
use Rattle.number.proofs.Table.{up_to}
use Rattle.form.specs.Form.{participant_at}
use Rattle.layout.proofs.read.participants.Given as goal

abbrev pub invariant-loop-i : goal.invariant-loop-i
invariant-loop-i l = (l.i ≤ places) × (length l.initial.l ≡ places) × (l.l ≡ up_to l.i (participant_at l.form l.bytes) l.initial.l)
