-- `summary::put_party` meets its contract: the party, and then its calls. Assumes nothing.
use Rattle.text.proofs.Putting.{put_then}
use Rattle.summary.proofs.put_party.Goals as goal

pub returns : goal.returns
returns c = put_then c.put_number-calls.ensures c.put_line.ensures
