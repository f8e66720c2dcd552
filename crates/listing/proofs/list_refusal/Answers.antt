-- `listing::list_refusal` meets its contract: the line is put, and then the text of it. Assumes nothing.
use mathlib.Core.Path.{sym}
use Prim.Native.Nat.{◌≤◌}
use native.Mathlib.Omega.{arith}
use lib.ListN.{length}
use lib.Seq.{length-take-le}
use Rattle.text.specs.Text.{refusal_line}
use Rattle.text.proofs.Putting.{put_front}
use Rattle.listing.proofs.Laws.{refusal_few}
use Rattle.listing.proofs.list_refusal.Goals as goal
use Rattle.listing.proofs.list_refusal.Goals.{After-put_refusal-length}

few : (c : After-put_refusal-length) → length (refusal_line c.number.result c.args.refused.value) ≤ 35
few c = rw c.number.ensures (refusal_few c.args.refused.refusal c.args.refused.value (omega arith))

pub slice_bounds-write_text-end : goal.slice_bounds-write_text-end
slice_bounds-write_text-end c =
    let line = c.put_refusal-length in
    let short = few (goal.at.slice_bounds-write_text-end c).After-put_refusal-length in
    sym (length-take-le line.result line.new.text (omega (arith, short, line.ensures.ends, line.auto.text)))

pub returns : goal.returns
returns c =
    let short = few (goal.at.returns c).After-put_refusal-length in
    rw (put_front c.put_refusal-length.ensures (omega (arith, short)), c.number.ensures) at c.write_text.ensures
