-- `layout::put_messages` meets its contract. Assumes nothing.
use Rattle.std.proofs.Common.{◌≤◌}
use Rattle.number.specs.Low.{low_bytes}
use Rattle.number.specs.Table.{tabulate}
use Rattle.rules.specs.State.{types}
use Rattle.text.proofs.Putting.{Putting}
use Rattle.state.specs.Fields.{message_in}
use Rattle.layout.proofs.put_messages.Given as goal

abbrev pub invariant-loop-k : goal.invariant-loop-k
invariant-loop-k l = (l.k ≤ types) × Putting (low_bytes l.width) (tabulate types (message_in l.fields)) l.initial.report l.place l.report l.at l.k
