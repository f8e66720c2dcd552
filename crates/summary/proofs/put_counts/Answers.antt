-- `summary::put_counts` meets its contract: line by line. Assumes nothing.
use Rattle.text.proofs.Putting.{put_then}
use Rattle.summary.proofs.put_counts.Goals as goal

pub returns : goal.returns
returns c = put_then c.put_line-commit.ensures (put_then c.put_line-abort.ensures (put_then c.put_line-neither.ensures c.put_line.ensures))
