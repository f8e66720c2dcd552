-- `Tail::calls_in_range` meets its contract, case by case. Assumes nothing.
use Rattle.std.proofs.Common.{rules, arith, sym, ◌∙◌, suc}
use Rattle.store.specs.Log.{places}
use Rattle.number.specs.Table.{every}
use Rattle.number.proofs.Table.{every_next, every_fails}
use Rattle.tail.proofs.Tail.calls_in_range.Goals as goal

pub loop-p-init : goal.loop-p-init
unfolding every
loop-p-init c = search rules

pub returns-then-not-count_in_range : goal.returns-then-not-count_in_range
returns-then-not-count_in_range c = sym (every_fails _ (suc places) c.loop-p.p c.loop-p-test.true (sym c.count_in_range.ensures ∙ c.if-not-count_in_range.true))

pub loop-p-preserved : goal.loop-p-preserved
loop-p-preserved c = (omega arith, every_next _ c.loop-p.p c.loop-p.invariant.1 (sym c.count_in_range.ensures ∙ c.if-not-count_in_range.false))
