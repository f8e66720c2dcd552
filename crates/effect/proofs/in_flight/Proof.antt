-- `effect::in_flight` meets its contract, case by case. Assumes nothing.
use borrow.Author.Rules.{rules}
use Rattle.effect.proofs.in_flight.Statement.{statement}
use Rattle.effect.proofs.in_flight.Tie as tie

pub in_flight_spec : {M : Type 1} → statement M
in_flight_spec =
    tie.close
    (tie.spec
    (λ c κs. search rules)
    (λ c κs. search rules)
    (λ c. simp (c.has.ensures, c.before.mask_of.ensures)))
