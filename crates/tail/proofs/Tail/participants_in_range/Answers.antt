-- `Tail::participants_in_range` meets its contract, case by case. Assumes nothing.
use Rattle.std.proofs.Common.{rules, arith, sym, ◌∙◌}
use Rattle.store.specs.Log.{places}
use Rattle.number.specs.Table.{every}
use Rattle.number.proofs.Table.{every_next, every_fails}
use Rattle.tail.proofs.Tail.participants_in_range.Goals as goal

pub loop-i-init : goal.loop-i-init
unfolding every
loop-i-init c = search rules

pub returns-then-not-in_range : goal.returns-then-not-in_range
returns-then-not-in_range c = sym (every_fails _ (places) c.loop-i.i c.loop-i-test.true (sym c.in_range.ensures ∙ c.if-not-in_range.true))

pub loop-i-preserved : goal.loop-i-preserved
loop-i-preserved c = (omega arith, every_next _ c.loop-i.i c.loop-i.invariant.1 (sym c.in_range.ensures ∙ c.if-not-in_range.false))
