-- `effect::receive` meets its contract, case by case. Assumes nothing.
use Rattle.std.specs.Prelude.{Option}
use Rattle.mask.specs.Mask.{has}
use Rattle.participant.specs.Participant
use Rattle.coordinator.specs.Coordinator
use Rattle.effect.specs.Types.{Decision}
use Rattle.rules.specs.Step.{participant_to, coordinator_goes}
use Rattle.effect.proofs.Leading.{under, reads}
use Rattle.effect.proofs.receive.Goals as goal

pub returns-in-Request : goal.returns-in-Request
returns-in-Request c = rw c.in-Request.is (reads _ c.args.i _ _ _ c.requires (λ all v d p. participant_to c.args.i (Participant.on_request (has c.args.i v) p) Option.None) (under _ _ _ _ _ (rw (c.request.ensures, c.has-vote.ensures, c.votes.ensures, c.participant_at-p.ensures) at c.participant_to.ensures)))

pub returns-in-ReplyYes : goal.returns-in-ReplyYes
returns-in-ReplyYes c = rw c.in-ReplyYes.is (reads _ c.args.i _ _ _ c.requires (λ all v d p. coordinator_goes (Coordinator.on_reply_yes all c.args.i d)) (rw (c.reply_yes.ensures, c.coordinator-c.ensures) at c.coordinator_goes.ensures))

pub returns-in-ReplyAbort : goal.returns-in-ReplyAbort
returns-in-ReplyAbort c = rw c.in-ReplyAbort.is (reads _ c.args.i _ _ _ c.requires (λ all v d p. coordinator_goes (Coordinator.on_reply_abort d)) (rw (c.reply_abort.ensures, c.coordinator-c.ensures) at c.coordinator_goes-in-ReplyAbort.ensures))

pub returns-in-Commit : goal.returns-in-Commit
returns-in-Commit c = rw c.in-Commit.is (reads _ c.args.i _ _ _ c.requires (λ all v d p. participant_to c.args.i (Participant.on_decision Decision.Commit p) Option.None) (under _ _ _ _ _ (rw (c.decision.ensures, c.participant_at-p.ensures) at c.participant_to-in-Commit.ensures)))

pub returns-in-Abort : goal.returns-in-Abort
returns-in-Abort c = rw c.in-Abort.is (reads _ c.args.i _ _ _ c.requires (λ all v d p. participant_to c.args.i (Participant.on_decision Decision.Abort p) Option.None) (under _ _ _ _ _ (rw (c.decision-in-Abort.ensures, c.participant_at-p.ensures) at c.participant_to-in-Abort.ensures)))
