-- `totals::sum_of` meets its contract: the sum of the entries has room. Assumes nothing.
use Rattle.std.proofs.Common.{◌∙◌}
use Rattle.std.proofs.lemmas.Iterator.{YieldsList-from_slice}
use Rattle.std.proofs.lemmas.Iterator.Consumers.{sum_from_yields_List, fits_from_yields_list}
use Rattle.totals.proofs.Bytes.{sum_same, sum_few}
use Rattle.totals.proofs.sum_of.Goals as goal

pub sum-total-requires-clause-fits : goal.sum-total-requires-clause-fits
sum-total-requires-clause-fits c =
    fits_from_yields_list c.iter.result _ (YieldsList-from_slice c.args.calls.now cc) (sum_few c.args.calls.now c.requires)

pub returns : goal.returns
returns c = sum_from_yields_List c.iter.result _ c.sum-total.ensures.ran (YieldsList-from_slice c.args.calls.now cc) ∙ sum_same c.args.calls.now
