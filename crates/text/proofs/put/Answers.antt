-- `text::put` meets its contract. Assumes nothing.
use Rattle.std.proofs.Common.{arith}
use Rattle.number.proofs.Lists.{sets_mid}
use Rattle.text.proofs.put.Goals as goal

pub returns : goal.returns
returns c = record {
  ends = omega arith;
  leaves = rw c.copy_from_slice.ensures.after (sets_mid c.args.text.now c.args.bytes.now c.args.place _ c.requires (omega arith));
}
