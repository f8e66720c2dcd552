-- `layout::put_counts` meets its contract. Assumes nothing.
use Rattle.std.proofs.Common.{◌≡◌, ℕ, suc, ◌+◌, ◌≤◌, List, length, take, arith}
use Rattle.std.proofs.lemmas.List.Edits.{sets}
use Rattle.number.specs.Low.{low_bytes}
use Rattle.number.specs.Table.{tabulate}
use Rattle.number.proofs.LowBytes.{low_length}
use Rattle.store.specs.Log.{places}
use Rattle.text.proofs.Putting.{Putting, put_all}
use Rattle.state.specs.Fields.{calls_in}
use Rattle.form.specs.Form.{count_width}
use Rattle.layout.proofs.Laws.{put_number, put_turn, put_here, taken, taken_length}
use Rattle.layout.proofs.put_counts.Goals as goal

module _ (l : List ℕ) (most : ℕ) (h : most ≤ places) where
  -- a count for each party of the form
  long : length (take (suc most) (tabulate (suc places) (calls_in l))) ≡ suc most
  long = taken_length (suc most) (suc places) (calls_in l) (omega arith)

  -- one count more
  turn : {start before after : List ℕ} {place at end : ℕ} (p : ℕ) → p ≤ most
      → Putting (low_bytes count_width) (take (suc most) (tabulate (suc places) (calls_in l))) start place before at p
      → (end ≡ at + count_width) × (after ≡ sets before at (low_bytes count_width (calls_in l p)))
      → Putting (low_bytes count_width) (take (suc most) (tabulate (suc places) (calls_in l))) start place after end (p + 1)
  turn p below g put =
      let here = taken (suc most) (suc places) (calls_in l) (omega arith) p 0 (omega arith) in
      put_turn g 0 (omega (arith, long)) here (put_number count_width (calls_in l p) put)

pub put-at-requires : goal.put-at-requires
put-at-requires c =
    let many = suc c.args.form.places in
    let all = long c.args.fields.now c.args.form.places c.requires.0.0 in
    put_here c.loop-p.invariant.1 0 count_width many (low_length count_width) all (omega arith) c.requires.1

pub loop-p-preserved : goal.loop-p-preserved
loop-p-preserved c =
    (omega arith, turn c.args.fields.now c.args.form.places c.requires.0.0 c.loop-p.p (omega arith) c.loop-p.invariant.1 c.put-at.ensures)

pub returns : goal.returns
returns c =
    let all = long c.args.fields.now c.args.form.places c.requires.0.0 in
    put_all _ _ _ _ _ _ _ c.loop-p.invariant.1 (omega arith)

pub returns-2 : goal.returns-2
returns-2 c =
    let all = long c.args.fields.now c.args.form.places c.requires.0.0 in
    let last = turn c.args.fields.now c.args.form.places c.requires.0.0 c.loop-p.p (omega arith) c.loop-p.invariant.1 c.put-at.ensures in
    put_all _ _ _ _ _ _ _ last (omega arith)
