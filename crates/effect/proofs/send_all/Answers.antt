-- `effect::send_all` meets its contract, case by case. Assumes nothing.
use Rattle.effect.proofs.Leading.{masks_all}
use Rattle.effect.proofs.send_all.Goals as goal

pub returns-in-Some : goal.returns-in-Some
returns-in-Some c = rw (c.in-Some.is, c.put_mask.ensures) (masks_all _ _ _)
