-- `state::fields_of` meets its contract, case by case. Assumes nothing.
use Rattle.state.proofs.Filling.{all_pieces}
use Rattle.state.proofs.fields_of.Goals as goal

pub returns : goal.returns
returns c = let good = c.well_formed.0.1.1.1.1.1 in all_pieces c.args.r (record { messages = good.0.1.0.1; sites = good.1.0.1.0.1; calls = good.1.1.1.0.1.0.1 }) _ _ _ _ _ c.fresh-l.ensures c.put_coordinator.ensures c.put_messages.ensures c.put_participants.ensures c.put_counts.ensures
