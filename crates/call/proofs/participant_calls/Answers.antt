-- `call::participant_calls` meets its contract, case by case. Assumes nothing.
use Rattle.store.specs.Log.{perform}
use Rattle.participant.specs.Participant
use Rattle.rules.specs.Step.{participant_performed, participant_calls}
use Rattle.call.proofs.Calling.{reads_called}
use Rattle.call.proofs.participant_calls.Goals as goal

pub returns : goal.returns
unfolding participant_calls
returns c = reads_called _ c.args.i _ _ _ c.requires.0 (λ all v d p x. participant_performed c.args.heard c.args.i c.args.j (perform (Participant.pending c.args.i p c.args.j) x)) c.args.j _ _ _ (rw (c.perform-l.ensures, c.pending.ensures, c.participant_at-p.ensures) at c.participant_performed.ensures)
