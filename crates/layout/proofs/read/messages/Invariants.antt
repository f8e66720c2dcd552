-- `layout::read::messages` meets its contract. Assumes nothing.
use Rattle.std.proofs.Common.{◌≡◌, ◌≤◌, length}
use Rattle.number.proofs.Table.{up_to}
use Rattle.rules.specs.State.{types}
use Rattle.form.specs.Form.{message_at}
use Rattle.layout.proofs.read.messages.Given as goal

abbrev pub invariant-loop-k : goal.invariant-loop-k
invariant-loop-k l = (l.k ≤ types) × (length l.initial.l ≡ types) × (l.l ≡ up_to l.k (message_at l.width l.bytes) l.initial.l)
