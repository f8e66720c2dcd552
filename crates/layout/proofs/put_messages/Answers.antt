-- `layout::put_messages` meets its contract. Assumes nothing.
use Rattle.std.proofs.Common.{arith}
use Rattle.number.proofs.LowBytes.{low_length}
use Rattle.number.proofs.Table.{length_tabulate, get_d_tabulate}
use Rattle.rules.specs.State.{types}
use Rattle.text.proofs.Putting.{put_all}
use Rattle.state.specs.Fields.{message_in}
use Rattle.layout.proofs.Laws.{put_number, put_turn, put_here}
use Rattle.layout.proofs.put_messages.Goals as goal

pub put-at-requires : goal.put-at-requires
put-at-requires c =
    let long = length_tabulate types (message_in c.args.fields.now) in
    put_here c.loop-k.invariant.1 0 c.args.width types (low_length c.args.width) long c.loop-k-test.true c.requires

pub loop-k-preserved : goal.loop-k-preserved
loop-k-preserved c =
    let f = message_in c.args.fields.now in
    let long = length_tabulate types f in
    let here = get_d_tabulate types f c.loop-k.k 0 c.loop-k-test.true in
    (omega arith, put_turn c.loop-k.invariant.1 0 (omega arith) here (put_number c.args.width (f c.loop-k.k) c.put-at.ensures))

pub returns : goal.returns
returns c =
    let long = length_tabulate types (message_in c.args.fields.now) in
    put_all _ _ _ _ _ _ _ c.loop-k.invariant.1 (omega arith)
