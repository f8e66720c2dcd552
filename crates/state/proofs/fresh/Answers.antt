-- `state::fresh` meets its contract: both sides compute. Assumes nothing.
use Rattle.std.proofs.Common.{refl}
use mathlib.Core.List.{flatten}
use Rattle.state.specs.Fields.{fields}
use Rattle.state.proofs.fresh.Goals as goal

pub returns : goal.returns
unfolding fields flatten
returns c = refl
