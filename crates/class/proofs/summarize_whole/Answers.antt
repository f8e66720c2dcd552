-- `class::summarize_whole` meets its contract: where there is room for every summary, none is refused. Assumes nothing.
use Rattle.std.proofs.Common.{arith}
use Rattle.writer.proofs.Texts.{answer_whole}
use Rattle.summary.specs.Summary.{summary}
use Rattle.summary.proofs.Fits.{summary_fits}
use Rattle.class.proofs.summarize_whole.Goals as goal

pub returns : goal.returns
returns c =
    let file = c.args.file.now in
    rw c.unwrap_or.ensures
    (answer_whole c.args.text.now (summary file) (summary_fits file) (omega (arith, c.told-text)) c.summarize.new.text c.summarize.result c.summarize.ensures.0 c.summarize.ensures.2)
