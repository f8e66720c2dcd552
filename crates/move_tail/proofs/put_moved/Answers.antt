-- `move_tail::put_moved` meets its contract: the line of what the move answers and leaves. Assumes nothing.
use Rattle.std.proofs.Common.{◌≡◌, ap, ◌∙◌, ℕ, arith, length}
use Rattle.std.specs.Prelude.{Result}
use Rattle.number.specs.declared.Refused.{Refused}
use Rattle.number.specs.Refusal.{with_number}
use Rattle.number.proofs.ByNumber.{numbered_answer}
use Rattle.text.proofs.Putting.{put_same, put_front}
use Rattle.start.specs.Move.{move_answers}
use Rattle.frame.specs.Frame.{answer_line}
use Rattle.move_tail.specs.Line.{moved_line}
use Rattle.move_tail.proofs.Laws.{moves}
use Rattle.move_tail.proofs.put_moved.Goals as goal
use Rattle.move_tail.proofs.put_moved.Goals.{After-map_err-answer}

answered : (c : After-map_err-answer) → c.map_err-answer.result ≡ with_number (move_answers (length c.args.moved.now) c.args.tail.now)
answered c =
    numbered_answer c.move_tail.result c.map_err-answer.result c.map_err-answer.ensures.cases
    ∙ ap (λ (x : Result ℕ Refused). with_number x) c.move_tail.ensures.0

line_here : (c : After-map_err-answer) → answer_line c.map_err-answer.result c.move_tail.new.wide ≡ moved_line c.args.tail.now
line_here c = rw (answered c, c.move_tail.ensures.2) (moves c.args.moved.now c.args.tail.now (omega (arith, c.told-moved))).said

pub put_answer-requires : goal.put_answer-requires
put_answer-requires c =
    let move = c.move_tail in
    let here = (goal.at.put_answer-requires c).After-map_err-answer in
    let x = moves c.args.moved.now c.args.tail.now (omega (arith, c.told-moved)) in (
      rw (answered here) (x.within move.new.wide move.auto.wide),
      rw (line_here here) (omega (arith, x.few, c.told-text)),
    )

pub returns : goal.returns
returns c =
    let x = moves c.args.moved.now c.args.tail.now (omega (arith, c.told-moved)) in
    let put = put_same (line_here (goal.at.returns c).After-map_err-answer) c.put_answer.ensures in
    (omega (arith, put.ends, x.few, c.told-text), put_front put (omega (arith, x.few, c.told-text)))
