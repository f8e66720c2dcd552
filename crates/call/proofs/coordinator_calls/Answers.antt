-- `call::coordinator_calls` meets its contract, case by case. Assumes nothing.
use lib.Dec.{lit<}
use Rattle.store.specs.Log.{perform}
use Rattle.coordinator.specs.Coordinator
use Rattle.rules.specs.Step.{coordinator_performed, coordinator_calls}
use Rattle.call.proofs.Calling.{reads_called}
use Rattle.call.proofs.coordinator_calls.Goals as goal

pub returns : goal.returns
unfolding coordinator_calls
returns c = reads_called _ 0 _ _ _ (lit< tt) (λ all v d p x. coordinator_performed c.args.heard c.args.j (perform (Coordinator.pending d c.args.j) x)) c.args.j _ _ _ (rw (c.perform.ensures, c.pending.ensures, c.coordinator-c.ensures) at c.coordinator_performed.ensures)
