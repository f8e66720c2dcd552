-- `Tail::calls_in_range` meets its contract: the counts so far are in range. Assumes nothing.
use Rattle.std.proofs.Common.{◌≡◌, ◌≤◌, suc, true, get_or}
use Rattle.store.specs.Log.{places}
use Rattle.number.specs.Table.{every}
use Rattle.tail.specs.Tail.{count_in_range}
use Rattle.tail.proofs.Tail.calls_in_range.Given as goal

abbrev pub invariant-loop-p : goal.invariant-loop-p
invariant-loop-p l = (l.p ≤ suc places) × (every (λ p. count_in_range l.limit l.self.n p (get_or l.self.calls p 0)) l.p ≡ true)
