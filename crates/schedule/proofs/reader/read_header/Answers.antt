-- `schedule::reader::read_header` meets its contract, case by case. Assumes nothing.
use mathlib.Core.Path.{sym, ap, ◌∙◌}
use Rattle.schedule.specs.Record.{record_header}
use Rattle.schedule.specs.Context.{context_of, ranged_header}
use Rattle.schedule.proofs.WithMask.{first_ranged}
use Rattle.schedule.proofs.reader.read_header.Goals as goal

pub returns-then-is_header : goal.returns-then-is_header
returns-then-is_header c =
    c.ranged_header.ensures
    ∙ ap ranged_header (c.context.ensures ∙ ap context_of (c.header.ensures ∙ ap record_header c.record_at.ensures))
    ∙ first_ranged c.args.bytes.now _ (sym c.kind_at.ensures ∙ c.in_ok-kind.was) (sym c.is_header.ensures ∙ c.if-is_header.true)
