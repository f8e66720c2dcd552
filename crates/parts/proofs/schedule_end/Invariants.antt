-- `parts::schedule_end`: the schedule goes on at the place where the loop stands, which is within the file but for a last body that is cut short.
-- Assumes nothing.
use Prim.Native.Nat.{◌+◌, ◌-◌, ◌≤◌}
use lib.ListN.{length, drop}
use Rattle.parts.specs.Parts.{part_length}
use Rattle.parts.proofs.Laws.{EndsAt}
use Rattle.parts.proofs.schedule_end.Given as goal

abbrev pub invariant-loop-at : goal.invariant-loop-at
invariant-loop-at l = (l.at ≤ length l.file + 5) × EndsAt l.file l.at (l.start + part_length (drop l.start l.file))

abbrev pub decreases-loop-at : goal.decreases-loop-at
decreases-loop-at l = length l.file + 5 - l.at
