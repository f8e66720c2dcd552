-- `replay::mark_whole` meets its contract: what is passed over is whole frames, and their lines are written. Assumes nothing.
use Rattle.std.proofs.Common.{◌≡◌, ◌+◌, ◌≤◌, length, take, arith, rules, sym, subst, ◌∙◌}
use Rattle.frame.proofs.Frames.{Framed, framed_none, part_within, part_length_lem, part_lines, framed_more, framed_all}
use Rattle.replay.proofs.mark_whole.Goals as goal

pub parts-init : goal.parts-init
parts-init g c = (search rules, framed_none)

pub returns-then-marked-eq0 : goal.returns-then-marked-eq0
returns-then-marked-eq0 g c =
    let turn = c.parts in
    let part = c.mark_frames-marked in
    (turn.invariant.0, framed_all c.args.input.now turn.at part.ensures turn.invariant.1 c.if-marked-eq0.true (omega arith))

pub write_lines-requires : goal.write_lines-requires
write_lines-requires g c = part_lines c.args.input.now c.parts.at c.mark_frames-marked.ensures

pub parts-preserved : goal.parts-preserved
parts-preserved g c =
    let input = c.args.input.now in
    let turn = c.parts in
    let part = c.mark_frames-marked in
    let passed : c.in_ok-at.field-0 ≡ part.result.used = c.in_ok-at.ensures ∙ part_length_lem input turn.at part.ensures in
    let within : turn.at + part.result.used ≤ length input = part_within input turn.at part.ensures turn.invariant.0 in
    (omega arith, subst (λ n. Framed (take (turn.at + n) input)) (sym passed) (framed_more input turn.at part.ensures turn.invariant.1))
