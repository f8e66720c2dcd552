-- `call::coordinator_performed` meets its contract, case by case. Assumes nothing.
use lib.Dec.{lit<}
use Rattle.coordinator.specs.Coordinator
use Rattle.rules.specs.Step.{coordinator_answered}
use Rattle.call.proofs.Calling.{reads_called}
use Rattle.call.proofs.coordinator_performed.Goals as goal

pub returns-in-Some : goal.returns-in-Some
returns-in-Some c = rw c.in-Some.is (reads_called _ 0 _ _ _ (lit< tt) (λ all v d p x. coordinator_answered c.args.heard c.args.j c.in-Some.done (Coordinator.on_answer all d c.args.j c.in-Some.done.answer)) c.args.j _ _ _ (rw (c.answer.ensures, c.requires.2) at c.coordinator_answered.ensures))
