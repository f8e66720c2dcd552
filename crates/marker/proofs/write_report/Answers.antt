-- `marker::write_report` meets its contract: too short, or the second pass and the tail. Assumes nothing.
use mathlib.Core.Path.{ap₂}
use Rattle.std.proofs.Common.{◌≡◌, sym, ap, ◌∙◌, arith, cond, length, List, ℕ, ◌+◌}
use Rattle.std.proofs.lemmas.List.Edits.{sets}
use Rattle.std.specs.Prelude.{Result, Ok, Err}
use borrow.Author.Tests.{le-ltb}
use Rattle.number.specs.Refusal.{refused}
use Rattle.schedule.specs.Schedule.{Reading}
use Rattle.rules.specs.Run.{after}
use Rattle.state.specs.Fields.{release_in}
use Rattle.passes.specs.Pass.{reading_from, steps_of}
use Rattle.passes.proofs.Passed.{stand}
use Rattle.passes.proofs.Begun.{left_places}
use Rattle.form.specs.Form.{form_of, tail_bytes, tail_length}
use Rattle.form.proofs.Lengths.{tail_most}
use Rattle.form.proofs.Fits.{form_fits}
use Rattle.layout.specs.Numbers.{tail_from}
use Rattle.layout.proofs.Source.{tail_from_lem}
use Rattle.marker.specs.Types.{Header, Release, Tail, Form, Refusal}
use Rattle.marker.specs.Types as types
use Rattle.marker.specs.Report.{report_bytes, tail_size}
use Rattle.marker.proofs.Ran.{answered, left, whole}
use Rattle.marker.proofs.write_report.Goals as goal

pub overflow_add-needed : goal.overflow_add-needed
overflow_add-needed c =
    let a = c.args in
    let kind = a.context.header.kind in
    omega (arith, (stand a.schedule.now a.start a.context a.steps c.requires.steps).few, c.length.ensures ∙ ap tail_length c.form_of-form.ensures, tail_most (form_of kind) (form_fits kind))

pub returns : goal.returns
returns c =
    let a = c.args in
    let m = a.steps in
    let h : Header = a.context.header in
    let report = a.report.now in
    let reading : Reading = reading_from a.schedule.now h a.start in
    let from : Header → Release = λ h. release_in a.numbers.now a.store in
    let bytes : List ℕ = report_bytes h.kind (from h) (steps_of reading) in
    let needed : c.length.result ≡ tail_size h = c.length.ensures ∙ ap tail_length c.form_of-form.ensures in
    let room = le-ltb (length report) (m + tail_size h) (omega (arith, c.if-report-needed.false, needed)) in
    let short : Result ℕ types.Refused = Err (refused Refusal.TooShort (m + tail_size h)) in
    let answer = answered from reading a.context m c.requires.steps (length report) ∙ ap (λ b. cond b short (Ok (m + tail_size h))) room in
    let leaves = left from reading a.context m c.requires.steps report ∙ ap (λ b. cond b report (sets report 0 bytes)) room in
    let tail =
    ap₂ (λ (f : Form) (t : Tail). tail_bytes f t) c.form_of-form.ensures
    (ap₂ tail_from c.run_steps-left.ensures.numbers c.run_steps-left.ensures.store ∙ tail_from_lem (after (from h) (steps_of reading)) (left_places c.requires)) in (
      ap (λ l. Ok (m + l)) needed ∙ sym answer,
      c.put_tail.ensures.leaves
          ∙ ap₂ (λ (l z : List ℕ). sets l m z) c.run_steps-left.ensures.bytes tail
          ∙ whole from reading a.context m c.requires.steps report
          ∙ sym leaves,
    )
