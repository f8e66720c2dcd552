-- `Tail::participants_in_range` meets its contract: the participants so far are in range. Assumes nothing.
use Rattle.std.proofs.Common.{◌≡◌, ◌≤◌, true}
use Rattle.store.specs.Log.{places}
use Rattle.number.specs.Table.{every}
use Rattle.tail.specs.Tail.{participant_in_range, fields_at}
use Rattle.tail.proofs.Tail.participants_in_range.Given as goal

abbrev pub invariant-loop-i : goal.invariant-loop-i
invariant-loop-i l = (l.i ≤ places) × (every (λ i. participant_in_range l.self.n i (fields_at l.self i)) l.i ≡ true)
