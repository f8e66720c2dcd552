-- `text::put_refusal` meets its contract: its parts follow one another. Assumes nothing.
use Rattle.text.proofs.Putting.{put_then}
use Rattle.text.proofs.put_refusal.Goals as goal

pub returns : goal.returns
returns c = put_then c.put-number.ensures (put_then c.put_decimal-middle.ensures (put_then c.put-value.ensures (put_then c.put_decimal-end.ensures c.put.ensures)))
