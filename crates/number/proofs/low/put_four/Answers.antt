-- `number::low::put_four` meets its contract. Assumes nothing.
use Rattle.std.proofs.Common.{◌≡◌, ◌∙◌, ◌+◌, ◌-◌, arith}
use Rattle.number.specs.Low.{low_bytes}
use Rattle.number.proofs.Lists.{sets_mid}
use Rattle.number.proofs.LowBytes.{low_four}
use Rattle.number.proofs.low.put_four.Goals as goal

pub returns : goal.returns
returns c =
    let e : c.copy_from_slice.new.self ≡ low_bytes 4 c.args.x = c.copy_from_slice.ensures.after ∙ c.to_le_bytes.ensures ∙ low_four c.args.x in
    rw e (sets_mid c.args.buffer.now (low_bytes 4 c.args.x) c.args.place (c.args.place + 4 - c.args.place) c.requires (omega arith))
