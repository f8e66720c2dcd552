-- `passes::count_steps` meets its contract: what is left to count, beside what was counted, is the whole. Assumes nothing.
use mathlib.Core.Path.{◌≡◌}
use Prim.Native.Nat.{◌-◌, ◌≤◌}
use lib.ListN.{length}
use Rattle.passes.specs.Pass.{reading_from, validated_after, validated}
use Rattle.passes.proofs.count_steps.Given as goal

abbrev pub invariant-loop-at : goal.invariant-loop-at
invariant-loop-at l =
    (l.at ≤ length l.schedule) × (l.steps ≤ l.at) × (validated_after l.steps (reading_from l.schedule l.context.header l.at) ≡ validated (reading_from l.schedule l.context.header l.start))

abbrev pub decreases-loop-at : goal.decreases-loop-at
decreases-loop-at l = length l.schedule - l.at
