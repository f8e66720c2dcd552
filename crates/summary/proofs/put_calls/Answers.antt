-- `summary::put_calls` meets its contract: all calls, and then those of each party. Assumes nothing.
use Rattle.text.proofs.Putting.{put_then}
use Rattle.summary.proofs.put_calls.Goals as goal

pub returns : goal.returns
returns c = put_then c.put_line-end.ensures c.put_column.ensures
