-- `marker::run` meets its contract: the first pass refuses, or the report is written from the fresh release. Assumes nothing.
use Rattle.std.proofs.Common.{◌≡◌, sym, ap, ◌∙◌, List, ℕ, length}
use Rattle.std.specs.Prelude.{Result, Ok}
use Rattle.schedule.specs.Record.{header_record, record_length}
use Rattle.schedule.specs.Schedule.{read_schedule}
use Rattle.writer.specs.Writer.{written_hands}
use Rattle.state.specs.Fields.{fields, release_in}
use Rattle.passes.specs.Pass.{validated, reading_from, fresh_of}
use Rattle.passes.proofs.Passed.{passed}
use Rattle.passes.proofs.Begun.{begun, fresh_back}
use Rattle.marker.specs.Types.{Header, Context, Refused}
use Rattle.marker.specs.Run.{reading_answer, reading_leaves, run_answers, run_leaves}
use Rattle.marker.proofs.Ran.{left_from}
use Rattle.marker.proofs.run.Goals as goal

-- the report that is written from the fresh release of a schedule's header is the run's
written : (s : List ℕ) (d : Context) (m : ℕ) → validated (read_schedule s) ≡ Ok (d, m) → (x : Result ℕ Refused) (before after : List ℕ)
    → x ≡ reading_answer (length before) (reading_from s d.header (record_length (header_record d.header)))
    → after ≡ reading_leaves (λ _. release_in (fields (fresh_of d.header)) (fresh_of d.header).store) before (reading_from s d.header (record_length (header_record d.header)))
    → (x ≡ run_answers (length before) s) × (after ≡ run_leaves before s)
written s d m c x before after a l =
    let h : Header = d.header in
    let same = (passed s d m c).after_header in
    (a ∙ ap (reading_answer (length before)) same, l ∙ ap (reading_leaves (λ _. release_in (fields (fresh_of h)) (fresh_of h).store) before) same ∙ left_from fresh_of (read_schedule s) d m c _ (fresh_back h) before)

pub write_report-requires : goal.write_report-requires
write_report-requires c =
    rw (c.first_step-start.ensures, c.fresh-numbers.ensures, c.empty.ensures)
    (begun c.in_ok-context.context c.args.schedule.now c.in_ok-context.steps (sym c.validate.ensures ∙ c.in_ok-context.was))

pub returns : goal.returns
returns c =
    let wrote = c.write_report.ensures in
    let x = written c.args.schedule.now c.in_ok-context.context c.in_ok-context.steps (sym c.validate.ensures ∙ c.in_ok-context.was) _ c.args.report.now _ (rw c.first_step-start.ensures at wrote.0) (rw (c.first_step-start.ensures, c.fresh-numbers.ensures, c.empty.ensures) at wrote.1) in
    (x.0, ap written_hands x.0, x.1)
