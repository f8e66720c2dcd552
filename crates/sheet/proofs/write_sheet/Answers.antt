-- `sheet::write_sheet` meets its contract: a buffer that is too short, or the whole sheet. Assumes nothing.
use Rattle.std.proofs.Common.{sym, ap, ◌∙◌}
use Rattle.writer.specs.Writer.{written_hands}
use Rattle.text.proofs.Putting.{put_front}
use Rattle.sheet.proofs.Whole.{sheet_short, written}
use Rattle.sheet.proofs.write_sheet.Goals as goal

pub returns : goal.returns
returns c =
    let is = c.context-context.ensures in
    let k = c.args.k in
    let passed = sym c.in_bounds.ensures ∙ c.if-not-in_bounds.false in
    let w = written is k passed c.args.out.now (put_front c.put_sheet-end.ensures (sheet_short is k passed)) c.write_text.ensures in
    (w.0, ap written_hands w.0, w.1)
