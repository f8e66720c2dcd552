-- `schedule::Record::in_range` meets its contract. Assumes nothing.
use Rattle.schedule.specs.Record.{record_header}
use Rattle.schedule.proofs.WithMask.{context_ranged}
use Rattle.schedule.proofs.Record.in_range.Goals as goal

pub returns-then-is_header : goal.returns-then-is_header
returns-then-is_header c =
    simp (c.in_range.ensures, c.context.ensures, c.header.ensures, c.if-is_header.true, ← c.is_header.ensures)
    (context_ranged (record_header c.args.self))
