-- `effect::participant_to` meets its contract, case by case. Assumes nothing.
use Rattle.effect.proofs.Leading.{participant_goes_lem}
use Rattle.effect.proofs.participant_to.Goals as goal

pub returns : goal.returns
returns c = rw (c.learnt.ensures, c.known-2.ensures, c.known.ensures, c.participant_at-old.ensures, c.put_participant.ensures) (participant_goes_lem _ _ _ _ _ c.requires c.send.ensures)
