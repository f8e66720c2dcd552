-- `sheet::list` meets its contract: the measure is the number of steps left. What holds while they are tried stands in Levels. Assumes nothing.
use Rattle.std.proofs.Common.{sym, ◌∙◌, ◌+◌, ◌-◌, ◌≤◌, arith, length, drop, length-drop, length-take-le}
use Rattle.sheet.proofs.Levels.{arrived, step_here, size_here, extends_here, fits, short, in_places_too, can_count, stayed, reaches, has_room, went}
use Rattle.sheet.proofs.+list.Goals as goal
use Rattle.sheet.proofs.+list.Goals.{then-moves, else-moves}

pub step-stepped-requires : goal.step-stepped-requires
step-stepped-requires t c =
    let g = c.requires.0 in
    let some = c.if-left-eq0.false in
    let trying = c.loop-c.invariant in
    let more = c.loop-c-test.true in
    let here = c.step_at-s.ensures ∙ step_here g some trying more in
    (rw here (in_places_too g some trying more), can_count g some trying more)

pub slice_bounds-with_step-end : goal.slice_bounds-with_step-end
slice_bounds-with_step-end t c =
    let g = c.requires.0 in
    let some = c.if-left-eq0.false in
    let trying = c.loop-c.invariant in
    let more = c.loop-c-test.true in
    let size = c.length_at-size.ensures ∙ size_here g some trying more in
    omega (arith, size, fits g some trying more)

pub with_step-requires : goal.with_step-requires
with_step-requires t c =
    let g = c.requires.0 in
    let some = c.if-left-eq0.false in
    let trying = c.loop-c.invariant in
    let more = c.loop-c-test.true in
    let size = c.length_at-size.ensures ∙ size_here g some trying more in
    let at = c.loop-c.c in
    let rest = drop at c.args.steps.now in
    let within : at + c.length_at-size.result - at ≤ length rest = omega (arith, size, fits g some trying more, length-drop at c.args.steps.now) in
    let long = length-take-le (at + c.length_at-size.result - at) rest within in
    (g.size, omega (arith, g.short, short g some trying more, size, long, some))

pub list-place-requires : goal.list-place-requires
list-place-requires t c =
    let g = c.requires.0 in
    let some = c.if-left-eq0.false in
    let trying = c.loop-c.invariant in
    let more = c.loop-c-test.true in
    let size = c.length_at-size.ensures ∙ size_here g some trying more in
    let here = c.step_at-s.ensures ∙ step_here g some trying more in
    let leads = rw here at c.step-stepped.ensures in
    let due = sym c.moves.ensures ∙ c.if-moves.true in
    let next = extends_here g some trying more _ size c.with_step.ensures in
    (omega (arith, c.decreases, some), (reaches g some trying more leads due next, has_room g some trying more leads due next c.requires.1))

pub loop-c-preserved : goal.loop-c-preserved
loop-c-preserved t c =
    let g = c.requires.0 in
    let some = c.if-left-eq0.false in
    let trying = c.loop-c.invariant in
    let more = c.loop-c-test.true in
    let size = c.length_at-size.ensures ∙ size_here g some trying more in
    let here = c.step_at-s.ensures ∙ step_here g some trying more in
    let leads = rw here at c.step-stepped.ensures in
    elim c.if-moves.branch [
      | then-moves w ↦
          rw (w.out-is, w.now-is, w.place-is, size)
          (let due = sym c.moves.ensures ∙ w.if-moves.true in
          let next = extends_here g some trying more _ size w.with_step.ensures in
          went g some trying more leads due next w.list-place.ensures)
      | else-moves w ↦ rw (w.out-is, w.now-is, w.place-is, size) (stayed g some trying more leads (sym c.moves.ensures ∙ w.if-moves.false))
    ]

pub returns : goal.returns
returns t c = arrived c.requires.0 c.if-left-eq0.false c.loop-c.invariant c.loop-c-test.false
