-- `mask::remove` meets its contract: a member's bit is taken off, and a mask without it stays. Assumes nothing.
use Rattle.std.proofs.Common.{◌∙◌, sym, arith}
use Rattle.mask.proofs.Laws.{member, remove_none, bit_of_has}
use Rattle.mask.proofs.remove.Goals as goal

pub overflow_shl-result : goal.overflow_shl-result
overflow_shl-result c = (member 32 c.args.m c.args.i (omega arith) (sym c.has.ensures ∙ c.if-has.true)).below

pub overflow_sub-result : goal.overflow_sub-result
overflow_sub-result c = omega (arith, member 32 c.args.m c.args.i (omega arith) (sym c.has.ensures ∙ c.if-has.true))

pub returns-then-has : goal.returns-then-has
returns-then-has c = omega (arith, member 32 c.args.m c.args.i (omega arith) (sym c.has.ensures ∙ c.if-has.true))

pub returns-else-has : goal.returns-else-has
returns-else-has c = sym (remove_none c.args.i c.args.m (bit_of_has c.args.i c.args.m (sym c.has.ensures ∙ c.if-has.false)))
