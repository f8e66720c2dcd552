-- `summary::put_largest` meets its contract: the number, and where it is. Assumes nothing.
use Rattle.text.proofs.Putting.{put_then}
use Rattle.summary.proofs.put_largest.Goals as goal

pub returns : goal.returns
returns c = put_then c.put_number-end.ensures c.put_line.ensures
