-- `layout::put_participants` meets its contract. Assumes nothing.
use Rattle.std.proofs.Common.{◌≤◌, take}
use Rattle.number.specs.Table.{tabulate}
use Rattle.store.specs.Log.{places}
use Rattle.text.proofs.Putting.{Putting}
use Rattle.form.specs.Form.{field_bytes}
use Rattle.layout.specs.Numbers.{fields_from}
use Rattle.layout.proofs.put_participants.Given as goal

abbrev pub invariant-loop-i : goal.invariant-loop-i
invariant-loop-i l =
    (l.i ≤ l.form.places)
    × Putting (field_bytes l.form.width) (take l.form.places (tabulate places (fields_from l.fields l.store)))
    l.initial.report l.place l.report l.at l.i
