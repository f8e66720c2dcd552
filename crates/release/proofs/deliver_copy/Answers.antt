-- `release::deliver_copy` meets its contract, case by case. Assumes nothing.
use Rattle.rules.specs.Step.{receive}
use Rattle.effect.proofs.Leading.{in_flight_leads, no_flight_leads}
use Rattle.release.proofs.deliver_copy.Goals as goal

pub returns-then-in_flight : goal.returns-then-in_flight
returns-then-in_flight c = in_flight_leads _ _ c.args.m c.args.i _ _ _ _ c.if-in_flight.true c.in_flight.ensures c.receive.ensures

pub returns-else-in_flight : goal.returns-else-in_flight
returns-else-in_flight c = no_flight_leads _ (receive c.args.m c.args.i) c.args.m c.args.i _ _ c.if-in_flight.false c.in_flight.ensures
