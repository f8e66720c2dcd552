-- `summary::summarize` meets its contract: the summary is put, and then written where there is room. Assumes nothing.
use Rattle.std.proofs.Common.{◌≡◌, sym, ap, subst, ◌∙◌, ◌≤◌, arith, length, take, Result}
use Rattle.std.specs.Prelude.{IfOk}
use Rattle.text.proofs.Putting.{put_front}
use Rattle.store.specs.Log.{places}
use Rattle.writer.specs.Writer.{written_hands, text_answer, text_left}
use Rattle.summary.specs.Types.{Refused, Figures}
use Rattle.summary.specs.Summary.{summary, answer_text, longest_summary}
use Rattle.summary.proofs.Fits.{answer_text_lem, answer_sites, summary_fits}
use Rattle.summary.proofs.summarize.Goals as goal
use Rattle.summary.proofs.summarize.Goals.{After-class_figures, After-put_answer-length}

-- the text of the answer is the summary, and has room
text : (c : After-class_figures) → answer_text c.class_figures.result ≡ summary c.args.file.now
text c = ap answer_text c.class_figures.ensures.0 ∙ answer_text_lem c.args.file.now

fits : (c : After-class_figures) → length (answer_text c.class_figures.result) ≤ longest_summary
fits c = omega (arith, ap length (text c), summary_fits c.args.file.now)

-- and stands at the front of the buffer
front : (c : After-put_answer-length) → length (answer_text c.class_figures.result) ≤ longest_summary
    → take c.put_answer-length.result c.put_answer-length.new.text ≡ answer_text c.class_figures.result
front c room = put_front c.put_answer-length.ensures room

pub put_answer-length-requires : goal.put_answer-length-requires
put_answer-length-requires c = (
  subst (λ (a : Result Figures Refused). IfOk a (λ f. f.totals.sites ≤ places)) (sym c.class_figures.ensures.0) (answer_sites c.args.file.now),
  fits c,
)

pub slice_bounds-whole-end : goal.slice_bounds-whole-end
slice_bounds-whole-end c =
    omega (arith, fits (goal.at.slice_bounds-whole-end c).After-class_figures, c.put_answer-length.ensures.ends, c.put_answer-length.auto)

pub slice_bounds-write_text-end : goal.slice_bounds-write_text-end
slice_bounds-write_text-end c =
    let x = goal.at.slice_bounds-write_text-end c in
    omega (arith, ap length (front x.After-put_answer-length (fits x.After-class_figures)), c.put_answer-length.ensures.ends)

pub returns : goal.returns
returns c =
    let out = c.args.text.now in
    let x = goal.at.returns c in
    let whole = front x.After-put_answer-length (fits x.After-class_figures) ∙ text x.After-class_figures in
    let wrote = c.write_text.ensures in
    let answer = wrote.0 ∙ ap (text_answer (length out)) whole in
    (answer, ap written_hands answer, wrote.1 ∙ ap (text_left out) whole)
