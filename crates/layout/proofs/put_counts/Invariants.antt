-- `layout::put_counts` meets its contract. Assumes nothing.
use Rattle.std.proofs.Common.{◌≤◌, suc, take}
use Rattle.number.specs.Low.{low_bytes}
use Rattle.number.specs.Table.{tabulate}
use Rattle.store.specs.Log.{places}
use Rattle.text.proofs.Putting.{Putting}
use Rattle.state.specs.Fields.{calls_in}
use Rattle.form.specs.Form.{count_width}
use Rattle.layout.proofs.put_counts.Given as goal

abbrev pub invariant-loop-p : goal.invariant-loop-p
invariant-loop-p l =
    (l.p ≤ suc l.fn.form.places)
    × Putting (low_bytes count_width) (take (suc l.fn.form.places) (tabulate (suc places) (calls_in l.fields)))
    l.initial.report l.place l.report l.at l.p
