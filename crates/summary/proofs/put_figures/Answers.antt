-- `summary::put_figures` meets its contract: part by part. Assumes nothing.
use Rattle.text.proofs.Putting.{put_then}
use Rattle.summary.proofs.put_figures.Goals as goal

pub returns : goal.returns
returns c = put_then c.put_counts-counted.ensures (put_then c.put_calls-added.ensures (put_then c.put_mean-end.ensures c.put_largest.ensures))
