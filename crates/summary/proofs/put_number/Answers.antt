-- `summary::put_number` meets its contract: the word, and then the number. Assumes nothing.
use Rattle.text.proofs.Putting.{put_then}
use Rattle.summary.proofs.put_number.Goals as goal

pub returns : goal.returns
returns c = put_then c.put-number.ensures c.put_decimal.ensures
