-- `effect::coordinator_to` meets its contract, case by case. Assumes nothing.
use Rattle.effect.proofs.Leading.{coordinator_goes_lem}
use borrow.Author.Rules.{rules}
use Rattle.effect.proofs.coordinator_to.Statement.{statement}
use Rattle.effect.proofs.coordinator_to.Tie as tie

pub coordinator_to_spec : {M : Type 1} → statement M
coordinator_to_spec =
    tie.close
    (tie.spec
    (λ c κs. search rules)
    (λ c κs. search rules)
    (λ c κs. search rules)
    (λ c κs. search rules)
    (λ c κs. search rules)
    (λ c κs. search rules)
    (λ c. rw (c.learnt.ensures, c.before.coordinator_known-2.ensures, c.before.before.coordinator_known.ensures, c.before.before.before.before.before.before.before.coordinator-old.ensures, c.before.before.before.put_coordinator.ensures) (coordinator_goes_lem _ _ _ _ _ c.before.before.before.before.before.send_all.ensures)))
