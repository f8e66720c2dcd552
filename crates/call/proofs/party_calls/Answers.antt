-- `call::party_calls` meets its contract, case by case. Assumes nothing.
use Rattle.std.proofs.Common.{suc, arith}
use Rattle.rules.specs.Step.{calls}
use Rattle.call.proofs.Calling.{numbered_log}
use Rattle.call.proofs.party_calls.Goals as goal

pub returns-then-p-eq0 : goal.returns-then-p-eq0
returns-then-p-eq0 c = rw c.if-p-eq0.true c.coordinator_calls.ensures

pub returns-else-p-eq0 : goal.returns-else-p-eq0
returns-else-p-eq0 c = λ s e. numbered_log _ (λ p. calls c.args.heard p (suc c.args.j)) _ _ _ _ _ _ _ (omega arith) (c.participant_calls.ensures s e)
