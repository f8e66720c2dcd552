-- `mask::insert` meets its contract: the shifted one fits the width, and `|` sets its bit. Assumes nothing.
use Rattle.std.proofs.Common.{rules}
use Rattle.mask.proofs.Laws.{shift_one, insert_or}
use Rattle.mask.proofs.insert.Goals as goal

pub returns : goal.returns
returns c = rw (shift_one 32 c.args.i (search rules)) (insert_or c.args.i c.args.m)
