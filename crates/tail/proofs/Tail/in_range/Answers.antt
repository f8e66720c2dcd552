-- `Tail::in_range` meets its contract: where a test fails, so does the whole. Assumes nothing.
use Rattle.std.proofs.Common.{sym, ap, ◌∙◌}
use Rattle.number.proofs.Laws.{and_false, false_and}
use Rattle.schedule.specs.Context.{context_in_range}
use Rattle.schedule.proofs.WithMask.{context_ranged}
use Rattle.tail.specs.Tail.{header_of}
use Rattle.tail.proofs.Tail.in_range.Goals as goal
use Rattle.tail.proofs.Tail.in_range.Goals.{then-in_range, else-in_range, then-messages_in_range, else-messages_in_range}

pub returns-else-parties_in_range : goal.returns-else-parties_in_range
returns-else-parties_in_range c =
    elim c.if-messages_in_range.branch [
      | then-messages_in_range w ↦ c.if-parties_in_range.false ∙ sym (and_false _ _ (and_false _ _ (false_and _ _ (sym w.parties_in_range.ensures ∙ sym w.value-is ∙ c.if-parties_in_range.false))))
      | else-messages_in_range w ↦ w.value-is ∙ w.if-messages_in_range.false
          ∙ elim c.if-in_range.branch [
            | then-in_range u ↦ sym (and_false _ _ (false_and _ _ (sym u.messages_in_range.ensures ∙ sym u.value-is ∙ w.if-messages_in_range.false)))
            | else-in_range u ↦
                (let header = header_of c.args.context.header.kind c.args.self in
                sym (false_and _ _ (sym (context_ranged header) ∙ ap context_in_range (sym c.requires) ∙ sym c.in_range.ensures ∙ u.if-in_range.false)))
          ]
    ]
