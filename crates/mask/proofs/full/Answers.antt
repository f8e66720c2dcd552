-- `mask::full` meets its contract: 2 ^ n fits 64 bits, and 2 ^ n - 1 fits 32. Assumes nothing.
use Rattle.std.proofs.Common.{arith}
use lib.Pow.{pow_pos, pow_mono}
use Rattle.mask.proofs.Laws.{shift_one}
use Rattle.mask.proofs.full.Goals as goal

pub overflow_sub-result : goal.overflow_sub-result
overflow_sub-result c = omega (arith, shift_one 64 c.args.n (omega arith), pow_pos c.args.n)

pub overflow_cast-result : goal.overflow_cast-result
overflow_cast-result c = omega (arith, shift_one 64 c.args.n (omega arith), pow_mono {i = c.args.n} {j = 32} (omega arith))

pub returns : goal.returns
returns c = rw (shift_one 64 c.args.n (omega arith))
