-- `totals::class_figures` meets its contract: what holds while schedules are added up stands in Counting. Assumes nothing.
use mathlib.Core.Path.{◌≡◌}
use Prim.Native.Nat.{◌-◌, ◌<◌}
use lib.ListN.{length}
use Rattle.schedule.specs.Record.{longest}
use Rattle.totals.proofs.Counting.{Counting}
use Rattle.totals.proofs.class_figures.Given as goal

abbrev pub invariant-loop-at : goal.invariant-loop-at
invariant-loop-at l = (0 < length l.file) × (length l.bytes ≡ longest) × Counting l.file l.totals l.column l.at

abbrev pub decreases-loop-at : goal.decreases-loop-at
decreases-loop-at l = length l.file - l.at
