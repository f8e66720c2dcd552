-- `call::participant_performed` meets its contract, case by case. Assumes nothing.
use Rattle.participant.specs.Participant
use Rattle.rules.specs.Step.{participant_answered}
use Rattle.call.proofs.Calling.{reads_called}
use Rattle.call.proofs.participant_performed.Goals as goal

pub returns-in-Some : goal.returns-in-Some
returns-in-Some c = rw c.in-Some.is (reads_called _ c.args.i _ _ _ c.requires.0 (λ all v d p x. participant_answered c.args.heard c.args.i c.args.j c.in-Some.done (Participant.on_answer all c.args.i p c.args.j c.in-Some.done.answer)) c.args.j _ _ _ ((rw (c.answer.ensures, c.requires.3) at c.participant_answered.ensures) c.args.all))
