-- `marker::run_from` meets its contract: the first pass refuses, or the report is written from the release of the tail. Assumes nothing.
use Rattle.std.proofs.Common.{◌≡◌, sym, ap, ◌∙◌, arith, length}
use Rattle.std.proofs.lemmas.Grind.{common_steps}
use Rattle.std.specs.Prelude.{Err}
use Rattle.writer.specs.Writer.{written_hands}
use Rattle.state.specs.Fields.{release_in}
use Rattle.start.specs.Start.{start_release, start_of, read_from, validated_from}
use Rattle.start.proofs.AnyRefusal.{context_own, first_pass}
use Rattle.start.proofs.Begun.{begun_from, refused_from}
use Rattle.marker.specs.Types.{Kind}
use Rattle.marker.specs.Run.{reading_answer, reading_leaves}
use Rattle.marker.proofs.Ran.{left_from}
use Rattle.marker.proofs.run_from.Goals as goal
use Rattle.marker.proofs.run_from.Goals.{After-validate_from}

pub validate_from-requires : goal.validate_from-requires
validate_from-requires c = context_own c.args.tail.now c.read_start.result c.map_err-read.result c.read_start.ensures c.map_err-read.ensures.cases

-- the first pass
first : (c : After-validate_from) → c.validate_from.result ≡ validated_from (start_of Kind.WideHeader c.args.tail.now) c.args.rest.now
first c =
    first_pass c.args.tail.now c.read_start.result c.map_err-read.result c.read_start.ensures c.map_err-read.ensures.cases c.args.rest.now
    c.validate_from.result c.validate_from.ensures

answer_is : (c : goal.After-from_residual) → c.from_residual.result ≡ Err c.in_err-start.field-0.0
answer_is c = let was = c.in_err-start.was in grind (arith, common_steps)

pub returns-in_err-start : goal.returns-in_err-start
returns-in_err-start c =
    let tail = c.args.tail.now in
    let rest = c.args.rest.now in
    let report = c.args.report.now in
    let e = refused_from tail rest (first (goal.at.returns-in_err-start c).After-validate_from) c.in_err-start.field-0.0 c.in_err-start.was in
    let answer = answer_is c ∙ sym (ap (reading_answer (length report)) e) in
    (answer, ap written_hands answer, sym (ap (reading_leaves (λ _. start_release tail) report) e))

pub write_report-requires : goal.write_report-requires
write_report-requires c =
    let read = first (goal.at.write_report-requires c).After-validate_from in
    (begun_from c.args.tail.now c.args.rest.now read c.in_ok-start.start c.in_ok-start.steps c.in_ok-start.was).ready

pub returns : goal.returns
returns c =
    let tail = c.args.tail.now in
    let rest = c.args.rest.now in
    let report = c.args.report.now in
    let start = c.in_ok-start.start in
    let begun = begun_from tail rest (first (goal.at.returns c).After-validate_from) start c.in_ok-start.steps c.in_ok-start.was in
    let wrote = c.write_report.ensures in
    let answer = wrote.0 ∙ ap (reading_answer (length report)) begun.at_once in (
      answer,
      ap written_hands answer,
      wrote.1
          ∙ ap (reading_leaves (λ _. release_in start.numbers start.store) report) begun.at_once
          ∙ left_from (λ _. start_release tail) (read_from tail rest) start.context c.in_ok-start.steps begun.steps _ begun.start_back report,
    )
