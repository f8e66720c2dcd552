-- `state::sites` meets its contract, case by case. Assumes nothing.
use Rattle.std.proofs.Common.{◌≡◌, ◌≤◌, length}
use Rattle.store.specs.Log.{places}
use Rattle.number.proofs.Table.{up_to}
use Rattle.state.specs.Fields.{site_in}
use Rattle.state.proofs.sites.Given as goal

abbrev pub invariant-loop-i : goal.invariant-loop-i
invariant-loop-i l = (l.i ≤ places) × (length l.initial.sites ≡ places) × (l.sites ≡ up_to l.i (site_in l.fields) l.initial.sites)
