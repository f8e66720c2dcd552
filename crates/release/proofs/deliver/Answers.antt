-- `release::deliver` meets its contract, case by case. Assumes nothing.
use Rattle.mask.specs.Mask.{remove}
use Rattle.rules.specs.Step.{receive, take_out}
use Rattle.effect.proofs.Leading.{in_flight_leads, no_flight_leads, after_mask}
use Rattle.release.proofs.deliver.Goals as goal

pub returns-then-in_flight : goal.returns-then-in_flight
returns-then-in_flight c = in_flight_leads _ _ c.args.m c.args.i _ _ _ _ c.if-in_flight.true c.in_flight.ensures (after_mask _ (receive c.args.m c.args.i) (remove c.args.i) c.args.m _ _ _ _ c.take_out.ensures c.receive.ensures)

pub returns-else-in_flight : goal.returns-else-in_flight
returns-else-in_flight c = no_flight_leads _ (λ r. receive c.args.m c.args.i (take_out c.args.m c.args.i r)) c.args.m c.args.i _ _ c.if-in_flight.false c.in_flight.ensures
