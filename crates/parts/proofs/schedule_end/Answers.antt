-- `parts::schedule_end` meets its contract: it passes over records until a schedule begins. Assumes nothing.
use mathlib.Core.Path.{◌≡◌, sym, ap, ◌∙◌}
use mathlib.Core.List.{List}
use Prim.Native.Nat.{ℕ, ◌-◌}
use native.Mathlib.Omega.{arith}
use lib.ListN.{length, take, drop, length-drop}
use lib.Seq.{take_all}
use Rattle.schedule.specs.Reader.{length_at}
use Rattle.parts.proofs.Laws.{size_most, first_passed, next_begins, record_passes, file_ends}
use Rattle.parts.proofs.schedule_end.Goals as goal

-- a part to the end is what is left
left : (file : List ℕ) (at : ℕ) → length_at (take (length file - at) (drop at file)) ≡ length_at (drop at file)
left file at = ap length_at (take_all (length file - at) (drop at file) (omega (arith, length-drop at file)))

pub loop-at-init : goal.loop-at-init
loop-at-init c =
    let file = c.args.file.now in
    let size = c.length_at.ensures ∙ left file c.args.start in
    let most = size_most file c.args.start c.requires.0 in
    (omega (arith, size, most.1), rw size (first_passed file c.args.start c.requires.0))

pub returns-then-begins_schedule : goal.returns-then-begins_schedule
returns-then-begins_schedule c =
    next_begins c.args.file.now c.loop-at.at c.loop-at-test.true c.loop-at.invariant.1 (sym c.begins_schedule.ensures ∙ c.if-begins_schedule.true)

pub loop-at-preserved : goal.loop-at-preserved
loop-at-preserved c =
    let file = c.args.file.now in
    let at = c.loop-at.at in
    let size = c.length_at-at.ensures ∙ left file at in
    let most = size_most file at c.loop-at-test.true in (
      omega (arith, size, most.1),
      rw size (record_passes file at c.loop-at-test.true c.loop-at.invariant.1 (sym c.begins_schedule.ensures ∙ c.if-begins_schedule.false)),
    )

pub returns : goal.returns
returns c = sym (file_ends c.args.file.now c.loop-at.at _ c.loop-at-test.false c.loop-at.invariant.1)
