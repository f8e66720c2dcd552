-- `print_sheet::put_lines` meets its contract: schedule by schedule. Assumes nothing.
use Rattle.print_sheet.proofs.Laws.{printed}
use Rattle.print_sheet.proofs.put_lines.Goals as goal

pub returns : goal.returns
returns c = printed c.loop-at.invariant c.loop-at-test.false
