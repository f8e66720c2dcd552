-- `layout::put_tail` meets its contract. Assumes nothing.
use Rattle.std.proofs.Common.{arith}
use Rattle.text.proofs.Putting.{put_then}
use Rattle.state.specs.Fields.{n_in, votes_in, coordinator_state_in, coordinator_heard_in, message_in}
use Rattle.layout.specs.Numbers.{fields_from}
use Rattle.form.proofs.Lengths.{head_length}
use Rattle.layout.proofs.Laws.{messages_length, parties_length}
use Rattle.layout.proofs.put_tail.Goals as goal

pub put_messages-participants-requires : goal.put_messages-participants-requires
put_messages-participants-requires c =
    let l = c.args.fields.now in
    omega (arith, head_length c.args.form.width (n_in l) (votes_in l) (coordinator_state_in l) (coordinator_heard_in l))

pub put_participants-counts-requires : goal.put_participants-counts-requires
put_participants-counts-requires c =
    let l = c.args.fields.now in
    let w = c.args.form.width in
    let head = head_length w (n_in l) (votes_in l) (coordinator_state_in l) (coordinator_heard_in l) in
    (c.requires.0, omega (arith, messages_length w (message_in l)))

pub put_counts-requires : goal.put_counts-requires
put_counts-requires c =
    let l = c.args.fields.now in
    let w = c.args.form.width in
    let head = head_length w (n_in l) (votes_in l) (coordinator_state_in l) (coordinator_heard_in l) in
    let parties = parties_length c.args.form c.requires.0.0 (fields_from l c.args.store) in
    (c.requires.0, omega (arith, messages_length w (message_in l)))

pub returns : goal.returns
returns c =
    put_then c.put_head-messages.ensures
    (put_then c.put_messages-participants.ensures
    (put_then c.put_participants-counts.ensures c.put_counts.ensures))
