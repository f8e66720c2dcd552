-- `listing::put_end` meets its contract: its five parts follow one another. Assumes nothing.
use Rattle.listing.proofs.Laws.{end_put}
use Rattle.listing.proofs.put_end.Goals as goal

pub returns : goal.returns
returns c = end_put c.args.r c.put-counts.ensures c.put_counts-counted.ensures c.put-next.ensures c.put_logs-logged.ensures c.put.ensures
