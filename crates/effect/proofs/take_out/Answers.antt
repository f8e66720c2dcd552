-- `effect::take_out` meets its contract, case by case. Assumes nothing.
use Rattle.mask.specs.Mask.{remove}
use Rattle.effect.proofs.Leading.{masks}
use Rattle.effect.proofs.take_out.Goals as goal

pub returns : goal.returns
returns c = rw (c.put_mask.ensures, c.remove.ensures, c.mask_of-old.ensures) (masks (remove c.args.i) _ _)
