-- `release::start` meets its contract, case by case. Assumes nothing.
use lib.Dec.{lit<}
use Rattle.coordinator.specs.Coordinator
use Rattle.rules.specs.Step.{coordinator_goes}
use Rattle.effect.proofs.Leading.{reads}
use Rattle.release.proofs.start.Goals as goal

pub returns : goal.returns
returns c = reads _ 0 _ _ _ (lit< tt) (λ all v d p. coordinator_goes (Coordinator.on_start d)) (rw (c.start.ensures, c.coordinator-c.ensures) at c.coordinator_goes.ensures)
