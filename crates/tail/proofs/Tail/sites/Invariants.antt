-- `Tail::sites` meets its contract, case by case. Assumes nothing.
use Rattle.std.proofs.Common.{◌≡◌, ◌≤◌, length}
use Rattle.store.specs.Log.{places}
use Rattle.number.proofs.Table.{up_to}
use Rattle.tail.specs.Tail.{site_of, fields_at}
use Rattle.tail.proofs.Tail.sites.Given as goal

abbrev pub invariant-loop-i : goal.invariant-loop-i
invariant-loop-i l = (l.i ≤ places) × (length l.initial.sites ≡ places) × (l.sites ≡ up_to l.i (λ i. site_of (fields_at l.self i)) l.initial.sites)
