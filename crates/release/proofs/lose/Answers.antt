-- `release::lose` meets its contract, case by case. Assumes nothing.
use mathlib.Core.Path.{refl}
use Rattle.mask.specs.Mask.{remove, full}
use Rattle.rules.specs.Step.{moved, take_out}
use Rattle.effect.proofs.Leading.{in_flight_leads, no_flight_leads, after_mask}
use Rattle.release.proofs.lose.Goals as goal

pub returns-then-in_flight : goal.returns-then-in_flight
returns-then-in_flight c = λ r h e. in_flight_leads (full r.n) _ c.args.m c.args.i _ _ _ _ c.if-in_flight.true c.in_flight.ensures (after_mask (full r.n) moved (remove c.args.i) c.args.m _ _ _ _ c.take_out.ensures (λ r h q e. (refl, e, refl, refl))) r h refl e

pub returns-else-in_flight : goal.returns-else-in_flight
returns-else-in_flight c = λ r h e. no_flight_leads (full r.n) (λ r. moved (take_out c.args.m c.args.i r)) c.args.m c.args.i _ _ c.if-in_flight.false c.in_flight.ensures r h refl e
