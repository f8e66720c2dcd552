-- `layout::put_head` meets its contract. Assumes nothing.
use Rattle.text.proofs.Putting.{put_then}
use Rattle.state.specs.Fields.{n_in, votes_in, coordinator_state_in, coordinator_heard_in}
use Rattle.form.specs.Form.{number_width}
use Rattle.layout.proofs.Laws.{put_number}
use Rattle.layout.proofs.put_head.Goals as goal

pub returns : goal.returns
returns c =
    let l = c.args.fields.now in
    put_then (put_number number_width (n_in l) c.put-a.ensures)
    (put_then (put_number c.args.width (votes_in l) c.put-b.ensures)
    (put_then (put_number number_width (coordinator_state_in l) c.put-c.ensures)
    (put_number c.args.width (coordinator_heard_in l) c.put.ensures)))
