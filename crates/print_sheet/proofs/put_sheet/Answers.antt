-- `print_sheet::put_sheet` meets its contract: the lines of the sheet that was written, or the refusal's. Assumes nothing.
use Rattle.std.proofs.Common.{ap, arith}
use Rattle.text.specs.Text.{refusal_line}
use Rattle.text.proofs.Putting.{put_same}
use Rattle.print_sheet.proofs.Whole.{There, Outside, there, outside, sheet_short, lines_put, refusal_short, refusal_put}
use Rattle.print_sheet.proofs.put_sheet.Goals as goal
use Rattle.print_sheet.proofs.put_sheet.Goals.{In-Ok, In-Err}

written : (c : In-Ok) → There c.args.n c.args.votes c.args.k c.args.sheet.now (omega (arith, c.told-sheet)) c.in-Ok.end c.write_sheet.new.out
written c = there c.args.n c.args.votes c.args.k c.args.sheet.now (omega (arith, c.told-sheet)) c.in-Ok.end c.write_sheet.new.out c.in-Ok.ensures.0 c.in-Ok.ensures.2

refused : (c : In-Err) → Outside c.args.n c.args.votes c.args.k c.in-Err.refused
refused c = outside c.args.n c.args.votes c.args.k c.args.sheet.now (omega (arith, c.told-sheet)) c.in-Err.refused c.in-Err.ensures.0

pub put_lines-requires : goal.put_lines-requires
put_lines-requires c =
    let short = sheet_short (written (goal.at.put_lines-requires c).In-Ok) in
    (omega (arith, short), omega (arith, short, c.told-text))

pub returns-in-Ok : goal.returns-in-Ok
returns-in-Ok c = lines_put (written (goal.at.returns-in-Ok c).In-Ok) (omega (arith, c.told-text)) c.put_lines.ensures

pub put_refusal-requires : goal.put_refusal-requires
put_refusal-requires c = rw c.number.ensures (omega (arith, refusal_short (refused (goal.at.put_refusal-requires c).In-Err), c.told-text))

pub returns-in-Err : goal.returns-in-Err
returns-in-Err c =
    let put = put_same (ap (λ k. refusal_line k c.in-Err.refused.value) c.number.ensures) c.put_refusal.ensures in
    refusal_put (refused (goal.at.returns-in-Err c).In-Err) (omega (arith, c.told-text)) put
