-- `frame::put_line` meets its contract: the line of what the run answers and leaves. Assumes nothing.
use Rattle.std.proofs.Common.{◌≡◌, ap, ◌∙◌, ℕ, arith, length}
use Rattle.std.specs.Prelude.{Result}
use Rattle.number.specs.declared.Refused.{Refused}
use Rattle.number.specs.Refusal.{with_number}
use Rattle.number.proofs.ByNumber.{numbered_answer}
use Rattle.text.proofs.Putting.{put_same}
use Rattle.marker.specs.Run.{run_answers}
use Rattle.frame.specs.Frame.{answer_line, line_of}
use Rattle.frame.proofs.Laws.{run_line, run_within, line_most}
use Rattle.frame.proofs.put_line.Goals as goal
use Rattle.frame.proofs.put_line.Goals.{After-map_err-answer}

answered : (c : After-map_err-answer) → c.map_err-answer.result ≡ with_number (run_answers (length c.args.report.now) c.args.schedule.now)
answered c =
    numbered_answer c.run.result c.map_err-answer.result c.map_err-answer.ensures.cases
    ∙ ap (λ (x : Result ℕ Refused). with_number x) c.run.ensures.0

line_here : (c : After-map_err-answer) → answer_line c.map_err-answer.result c.run.new.report ≡ line_of c.args.schedule.now
line_here c = rw (answered c, c.run.ensures.2) (run_line c.args.schedule.now c.args.report.now c.requires.0)

pub put_answer-requires : goal.put_answer-requires
put_answer-requires c =
    let x = (goal.at.put_answer-requires c).After-map_err-answer in (
      rw (answered x) (run_within c.args.schedule.now c.args.report.now c.run.new.report c.run.auto.report),
      rw (line_here x) (omega (arith, line_most c.args.schedule.now, c.requires.1)),
    )

pub returns : goal.returns
returns c =
    let put = put_same (line_here (goal.at.returns c).After-map_err-answer) c.put_answer.ensures in
    (put, omega (arith, put.ends, line_most c.args.schedule.now, c.requires.1), c.run.ensures.2)
