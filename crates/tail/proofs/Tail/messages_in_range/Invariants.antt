-- `Tail::messages_in_range` meets its contract: the masks so far are in range. Assumes nothing.
use Rattle.std.proofs.Common.{◌≡◌, ◌≤◌, true, get_or}
use Rattle.mask.specs.Mask.{within}
use Rattle.number.specs.Table.{every}
use Rattle.tail.proofs.Tail.messages_in_range.Given as goal

abbrev pub invariant-loop-m : goal.invariant-loop-m
invariant-loop-m l = (l.m-index ≤ 5) × (every (λ k. within l.fn.self.n (get_or l.fn.self.messages k 0)) l.m-index ≡ true)
