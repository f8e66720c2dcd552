-- `effect::send` meets its contract, case by case. Assumes nothing.
use Rattle.mask.specs.Mask.{insert}
use Rattle.effect.proofs.Leading.{masks}
use Rattle.effect.proofs.send.Goals as goal

pub returns-in-Some : goal.returns-in-Some
returns-in-Some c = rw (c.in-Some.is, c.put_mask.ensures, c.insert.ensures, c.mask_of-old.ensures) (masks (insert c.args.i) _ _)
