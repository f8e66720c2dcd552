-- `number::low::number` meets its contract: the bytes are read from the last one on. Assumes nothing.
use Rattle.std.proofs.Common.{◌≡◌, ◌<◌, ◌∙◌, ◌+◌, ◌-◌, ℕ, ap, arith, take, drop}
use Rattle.number.specs.Low.{low_number}
use Rattle.number.proofs.LowBytes.{reads_next, reads_done, reads_room, low_number_front}
use Rattle.number.proofs.low.number.Goals as goal

room_here : (c : goal.After-from) → c.loop-byte.x < 16777216
room_here c = reads_room _ _ _ _ _ _ c.in-Some.ensures.steps c.loop-byte.invariant c.requires.1

pub overflow_mul-x : goal.overflow_mul-x
overflow_mul-x c = omega (arith, room_here c)

pub overflow_add-x : goal.overflow_add-x
overflow_add-x c = omega (arith, room_here c)

pub loop-byte-preserved : goal.loop-byte-preserved
loop-byte-preserved c = rw c.from.ensures (reads_next _ _ _ _ _ _ c.in-Some.ensures.steps c.loop-byte.invariant (omega arith))

pub returns : goal.returns
returns c =
    let done = reads_done _ _ _ _ c.in-None.ensures.steps.0 c.loop-byte.invariant in
    let k : ℕ = c.args.place + c.args.width - c.args.place in
    let part : c.into_iter-byte-iterator.result.iter.rest.now ≡ take k (drop c.args.place c.args.bytes.now) = cc in
    (done.0 ∙ ap (low_number c.args.width) part ∙ low_number_front c.args.width k (drop c.args.place c.args.bytes.now) (omega arith), done.1)
