-- `Tail::participants_of` meets its contract, case by case. Assumes nothing.
use Rattle.std.proofs.Common.{◌≡◌, ◌≤◌, length}
use Rattle.store.specs.Log.{places}
use Rattle.number.proofs.Table.{up_to}
use Rattle.rules.specs.State.{participant_at, log_at}
use Rattle.tail.specs.Tail.{fields_for}
use Rattle.tail.proofs.Tail.participants_of.Given as goal

abbrev pub invariant-loop-i : goal.invariant-loop-i
invariant-loop-i l =
    (l.i ≤ places) × (length l.initial.participants ≡ places)
    × (l.participants ≡ up_to l.i (λ i. fields_for (participant_at l.sites i) (log_at l.logs i)) l.initial.participants)
