-- `start::move_tail` meets its contract: a refusal of the tail, too short, or its fields in the wide form. Assumes nothing.
use Rattle.std.proofs.Common.{◌≡◌, sym, ap, ◌∙◌, arith, List, ℕ}
use Rattle.std.proofs.lemmas.Grind.{common_steps}
use Rattle.std.proofs.lemmas.List.Edits.{sets}
use Rattle.std.specs.Prelude.{Ok, Err, None}
use Rattle.number.specs.Refusal.{refused}
use Rattle.writer.specs.Writer.{written_hands}
use Rattle.tail.specs.Tail.{release_of}
use Rattle.form.specs.Form.{narrow, wide, tail_bytes, tail_length, tail_at}
use Rattle.layout.specs.Numbers.{tail_from}
use Rattle.layout.proofs.Source.{tail_from_lem}
use Rattle.start.specs.Types.{Kind, Start, Form}
use Rattle.start.specs.Start.{tail_refusal, start_at}
use Rattle.start.specs.Move.{moved_bytes}
use Rattle.start.proofs.Taken.{start_places, fields_back}
use Rattle.start.proofs.Answered.{move_refused, move_done, start_refused, start_taken}
use Rattle.start.proofs.move_tail.Goals as goal

answer_is : (c : goal.After-from_residual) → c.from_residual.result ≡ Err (refused c.in_err-start.field-0.0 0)
answer_is c = let was = c.in_err-start.was in grind (arith, common_steps)

pub returns-in_err-start : goal.returns-in_err-start
returns-in_err-start c =
    let tail = c.args.tail.now in
    let x = move_refused c.args.wide.now tail c.in_err-start.field-0.0 (start_refused Kind.Header tail _ (sym c.read_start.ensures ∙ c.in_err-start.was)) in
    let answer = answer_is c ∙ x.0 in
    (answer, ap written_hands answer, x.1)

-- the bytes that are put
moved : (tail : List ℕ) (s : Start) → tail_refusal Kind.Header tail ≡ None → start_at Kind.Header tail ≡ s → tail_bytes wide (tail_from s.numbers s.store) ≡ moved_bytes tail
moved tail s taken same =
    ap (tail_bytes wide)
    (ap (λ (t : Start). tail_from t.numbers t.store) (sym same)
    ∙ tail_from_lem (release_of (tail_at narrow tail)) (start_places Kind.Header tail)
    ∙ fields_back Kind.Header tail taken)

pub returns : goal.returns
returns c =
    let tail = c.args.tail.now in
    let out = c.args.wide.now in
    let s = c.in_ok-start.start in
    let taken = start_taken Kind.Header tail s (sym c.read_start.ensures ∙ c.in_ok-start.was) in
    let needed : c.length-needed.result ≡ tail_length wide = c.length-needed.ensures ∙ ap tail_length c.form_of-form.ensures in
    let x = move_done out tail taken.0 (omega (arith, c.if-wide-needed.false, needed)) in
    let answer = ap Ok needed ∙ x.0 in (
      answer,
      ap written_hands answer,
      c.put_tail.ensures.leaves
          ∙ ap (λ (f : Form). sets out 0 (tail_bytes f (tail_from s.numbers s.store))) c.form_of-form.ensures
          ∙ ap (sets out 0) (moved tail s taken.0 taken.1)
          ∙ x.1,
    )
