-- `summary::put_line` meets its contract: the word and the number, and then the end of the line. Assumes nothing.
use Rattle.text.proofs.Putting.{put_then}
use Rattle.summary.proofs.put_line.Goals as goal

pub returns : goal.returns
returns c = put_then c.put_number-end.ensures c.put.ensures
