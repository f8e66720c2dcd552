-- `call::coordinator_answered` meets its contract, case by case. Assumes nothing.
use mathlib.Core.Path.{refl}
use native.Mathlib.Omega.{arith}
use Rattle.rules.specs.Step.{moved}
use Rattle.call.proofs.Calling.{after_called}
use Rattle.call.proofs.coordinator_answered.Goals as goal

pub returns-then-heard : goal.returns-then-heard
returns-then-heard c = rw (c.in-Some.is, c.if-heard.true, c.new-then-heard.ensures) (after_called _ _ 0 _ _ _ _ _ _ _ _ (omega arith) c.closes-closed.ensures (rw c.count_call.ensures at c.coordinator_to.ensures))

pub returns-else-heard : goal.returns-else-heard
returns-else-heard c = rw (c.in-Some.is, c.if-heard.false, c.new-else-heard.ensures) (after_called _ moved 0 _ _ _ _ _ _ _ _ (omega arith) c.closes-closed.ensures (rw c.count_call.ensures (λ r h q e. (refl, e, refl, refl))))
