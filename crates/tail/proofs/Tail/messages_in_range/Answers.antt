-- `Tail::messages_in_range` meets its contract, case by case. Assumes nothing.
use Rattle.std.proofs.Common.{rules, arith, sym, ap, ◌∙◌, leb}
use Rattle.number.specs.Table.{every}
use Rattle.number.proofs.Table.{every_next, every_fails}
use Rattle.tail.proofs.Tail.messages_in_range.Goals as goal

pub loop-m-init : goal.loop-m-init
unfolding every
loop-m-init c = search rules

pub returns-then-not-within : goal.returns-then-not-within
returns-then-not-within c =
    sym (every_fails _ 5 c.loop-m.m-index c.loop-m-test.true (ap (leb _) (sym c.requires) ∙ sym c.within.ensures ∙ c.if-not-within.true))

pub loop-m-preserved : goal.loop-m-preserved
loop-m-preserved c =
    (omega arith, every_next _ c.loop-m.m-index c.loop-m.invariant.1 (ap (leb _) (sym c.requires) ∙ sym c.within.ensures ∙ c.if-not-within.false))
