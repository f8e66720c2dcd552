-- `release::step` meets its contract: with a store call, or without one. Assumes nothing.
use Rattle.call.proofs.Calling.{stays}
use Rattle.release.proofs.step.Goals as goal

pub returns-else-makes_call : goal.returns-else-makes_call
returns-else-makes_call c = rw c.new.ensures (stays _ _ _ _ _ _ c.without_call.ensures)
