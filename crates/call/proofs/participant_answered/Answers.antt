-- `call::participant_answered` meets its contract, case by case. Assumes nothing.
use mathlib.Core.Path.{refl}
use Prim.Native.Nat.{◌+◌}
use native.Mathlib.Omega.{arith}
use native.Mathlib.Numerals.{add-one}
use Rattle.rules.specs.Step.{moved}
use Rattle.effect.proofs.Leading.{under}
use Rattle.call.proofs.Calling.{after_called}
use Rattle.call.proofs.participant_answered.Goals as goal

pub returns-then-heard : goal.returns-then-heard
returns-then-heard c = λ all. rw (c.in-Some.is, c.if-heard.true, c.new-then-heard.ensures, ← add-one c.args.i) (after_called all _ (c.args.i + 1) _ _ _ _ _ _ _ _ (omega (arith, c.requires.0)) c.closes-closed.ensures (rw c.count_call.ensures at (under all _ _ _ _ c.participant_to.ensures)))

pub returns-else-heard : goal.returns-else-heard
returns-else-heard c = λ all. rw (c.in-Some.is, c.if-heard.false, c.new-else-heard.ensures, ← add-one c.args.i) (after_called all moved (c.args.i + 1) _ _ _ _ _ _ _ _ (omega (arith, c.requires.0)) c.closes-closed.ensures (rw c.count_call.ensures (λ r h q e. (refl, e, refl, refl))))
