-- `number::low::put_each` meets its contract: the bytes put, and those of what is left, are those of the whole. Assumes nothing.
use Rattle.std.proofs.Common.{◌≡◌, ◌∙◌, ◌+◌, ◌-◌, arith}
use Rattle.number.specs.Low.{low_bytes}
use Rattle.number.proofs.Lists.{sets_mid}
use Rattle.number.proofs.LowBytes.{low_length, low_next, low_done}
use Rattle.number.proofs.low.put_each.Goals as goal

pub loop-byte-preserved : goal.loop-byte-preserved
loop-byte-preserved c =
    low_next c.loop-byte.part c.args.width c.loop-byte.byte-index c.loop-byte.rest (omega arith) (omega arith) ∙ c.loop-byte.invariant

pub returns : goal.returns
returns c =
    let args = c.args in
    let turn = c.loop-byte in
    let bytes = low_bytes args.width args.x in
    let e : turn.part ≡ bytes = low_done turn.part _ args.width turn.byte-index turn.rest (omega arith) (omega arith) turn.invariant in
    let long = low_length args.width args.x in
    rw e (sets_mid args.buffer.now bytes args.place (args.place + args.width - args.place) (omega (arith, long)) (omega (arith, long)))
