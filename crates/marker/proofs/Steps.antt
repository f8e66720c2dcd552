-- Step i of a schedule: its byte, and the release after it. Assumes nothing.
use mathlib.Core.Path.{◌≡◌, refl}
use mathlib.Core.List.{List, [], ◌∷◌}
use Prim.Native.Nat.{ℕ, zero, suc, ◌<◌}
use native.Mathlib.Omega.{arith}
use lib.ListN.{length, get_or, take}
use Rattle.rules.specs.Report.{step_byte}
use Rattle.rules.specs.Step.{step}
use Rattle.rules.specs.Run.{after}
use Rattle.passes.specs.Pass.{step_bytes}
use Rattle.marker.specs.Types.{Step, Release}

pub byte_at : (r : Release) (steps : List Step) (i : ℕ) (d : Step) → i < length steps
    → get_or (step_bytes r steps) i 0 ≡ step_byte (step (after r (take i steps)) (get_or steps i d))
byte_at r [] i d h = absurd (omega arith)
byte_at r (s ∷ ss) zero d h = refl
byte_at r (s ∷ ss) (suc i) d h = byte_at (step r s).next ss i d (omega arith)

pub after_one_more : (r : Release) (steps : List Step) (i : ℕ) (d : Step) → i < length steps
    → after r (take (suc i) steps) ≡ (step (after r (take i steps)) (get_or steps i d)).next
after_one_more r [] i d h = absurd (omega arith)
after_one_more r (s ∷ ss) zero d h = refl
after_one_more r (s ∷ ss) (suc i) d h = after_one_more (step r s).next ss i d (omega arith)
