-- `mask::has` meets its contract: a shift and a remainder give the bit, and a place beyond the width has none. Assumes nothing.
use Rattle.std.proofs.Common.{arith}
use Rattle.mask.proofs.Laws.{bit_shift, has_beyond}
use Rattle.mask.proofs.has.Goals as goal

pub returns-then-i-lt32 : goal.returns-then-i-lt32
returns-then-i-lt32 c = rw (bit_shift c.args.i c.args.m)

pub returns-else-i-lt32 : goal.returns-else-i-lt32
returns-else-i-lt32 c = (let h = has_beyond 32 c.args.i c.args.m (omega arith) (omega arith) in grind (arith, h))
