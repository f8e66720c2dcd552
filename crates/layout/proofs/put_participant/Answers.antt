-- `layout::put_participant` meets its contract. Assumes nothing.
use Rattle.store.specs.Log.{record_number}
use Rattle.text.proofs.Putting.{put_then}
use Rattle.form.specs.Form.{number_width}
use Rattle.layout.proofs.Laws.{put_number}
use Rattle.layout.proofs.put_participant.Goals as goal

pub returns : goal.returns
returns c =
    put_then (put_number number_width c.args.state c.put-a.ensures)
    (put_then (put_number c.args.width c.args.heard c.put-b.ensures)
    (put_then (put_number number_width (record_number c.args.log.first) (rw c.number.ensures at c.put-c.ensures))
    (put_number number_width (record_number c.args.log.last) (rw c.number-2.ensures at c.put.ensures))))
