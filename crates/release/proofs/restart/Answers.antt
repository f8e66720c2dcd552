-- `release::restart` meets its contract, case by case. Assumes nothing.
use Prim.Native.Nat.{◌-◌}
use native.Mathlib.Omega.{arith}
use lib.Dec.{lit<}
use Rattle.participant.specs.Participant
use Rattle.coordinator.specs.Coordinator
use Rattle.release.specs.Types.{Step}
use Rattle.rules.specs.Step.{participant_goes, coordinator_goes, step}
use Rattle.effect.proofs.Leading.{under, reads, numbered}
use Rattle.release.proofs.restart.Goals as goal

pub returns-then-p-eq0 : goal.returns-then-p-eq0
returns-then-p-eq0 c = rw c.if-p-eq0.true (reads _ 0 _ _ _ (lit< tt) (λ all v d p. coordinator_goes (Coordinator.on_restart d)) (rw (c.restart.ensures, c.coordinator-c.ensures) at c.coordinator_goes.ensures))

pub returns-else-p-eq0 : goal.returns-else-p-eq0
returns-else-p-eq0 c = numbered _ (λ p r. step r (Step.Restart p)) _ _ _ _ (omega arith) (reads _ (c.args.p - 1) _ _ _ (omega (arith, c.requires)) (λ all v d p. participant_goes (c.args.p - 1) (Participant.on_restart p)) (under _ _ _ _ _ (rw (c.restart-else-p-eq0.ensures, c.participant_at-own.ensures) at c.participant_goes.ensures)))
