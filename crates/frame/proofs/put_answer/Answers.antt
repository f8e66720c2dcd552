-- `frame::put_answer` meets its contract: what was written in hexadecimal, and the line's end. Assumes nothing.
use Rattle.text.proofs.Putting.{put_then}
use Rattle.frame.proofs.put_answer.Goals as goal

pub returns-in-Ok : goal.returns-in-Ok
returns-in-Ok c = rw c.in-Ok.is (put_then c.put_hexadecimal-end.ensures c.put.ensures)
