-- `summary::put_mean` meets its contract: the whole part, the remainder, and over what. Assumes nothing.
use Rattle.text.proofs.Putting.{put_then}
use Rattle.summary.proofs.put_mean.Goals as goal

pub returns : goal.returns
returns c = put_then c.put_number-whole.ensures (put_then c.put_number-over.ensures c.put_line.ensures)
