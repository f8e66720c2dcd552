-- `call::calls` meets its contract: the store has what the call left of its log. Assumes nothing.
use Rattle.std.proofs.Common.{sym}
use Rattle.call.proofs.calls.Goals as goal

pub returns : goal.returns
returns c = rw (c.new.ensures, c.with_log.ensures) (c.party_calls-x.ensures c.args.store (sym c.log_at.ensures))
