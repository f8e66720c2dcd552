-- `layout::put_participants` meets its contract. Assumes nothing.
use Rattle.std.proofs.Common.{arith}
use Rattle.store.specs.Log.{places}
use Rattle.text.proofs.Putting.{put_all}
use Rattle.tail.specs.Tail.{zeros}
use Rattle.form.specs.Form.{participant_length}
use Rattle.form.proofs.Lengths.{fields_size}
use Rattle.layout.specs.Numbers.{fields_from}
use Rattle.layout.proofs.Laws.{put_turn, put_here, taken, taken_length}
use Rattle.layout.proofs.put_participants.Goals as goal

pub put_participant-at-requires : goal.put_participant-at-requires
put_participant-at-requires c =
    let form = c.args.form in
    let long = taken_length form.places places (fields_from c.args.fields.now c.args.store) c.requires.0.0 in
    put_here c.loop-i.invariant.1 zeros (participant_length form.width) form.places (fields_size form.width) long c.loop-i-test.true c.requires.1

pub loop-i-preserved : goal.loop-i-preserved
loop-i-preserved c =
    let many = c.args.form.places in
    let f = fields_from c.args.fields.now c.args.store in
    let long = taken_length many places f c.requires.0.0 in
    let here = taken many places f c.requires.0.0 c.loop-i.i zeros c.loop-i-test.true in
    (omega arith, put_turn c.loop-i.invariant.1 zeros (omega arith) here c.put_participant-at.ensures)

pub returns : goal.returns
returns c =
    let long = taken_length c.args.form.places places (fields_from c.args.fields.now c.args.store) c.requires.0.0 in
    put_all _ _ _ _ _ _ _ c.loop-i.invariant.1 (omega arith)
