-- What a step in range says of its numbers. Assumes nothing.
use mathlib.Core.Path.{◌≡◌}
use mathlib.Core.Bool.{true, ◌&&◌}
use Prim.Native.Nat.{ℕ, ◌≤◌}
use lib.Dec.{leb}
use borrow.Author.Tests.{leb-true}
use Rattle.number.proofs.Laws.{and_left, and_right}
use Rattle.kind.specs.Step.{number_in_range, in_range}
use Rattle.kind.proofs.Numbers.{between}
use Rattle.rules.specs.Types.{Step, Start, Deliver, Copy, Lose, Timeout, Crash, Restart}

abbrev pub Bounds : ℕ → Step → Type 0
Bounds n Start = Unit {0}
Bounds n (Deliver m p) = (1 ≤ p) × (p ≤ n)
Bounds n (Copy m p) = (1 ≤ p) × (p ≤ n)
Bounds n (Lose m p) = (1 ≤ p) × (p ≤ n)
Bounds n (Step.Call p q) = (p ≤ n) × (1 ≤ q) × (q ≤ n)
Bounds n (Step.CallLost p q) = (p ≤ n) × (1 ≤ q) × (q ≤ n)
Bounds n (Timeout p) = p ≤ n
Bounds n (Crash p) = p ≤ n
Bounds n (Restart p) = p ≤ n

call_bounds : (n p k : ℕ) → leb p n && number_in_range 1 k n ≡ true → (p ≤ n) × (1 ≤ k) × (k ≤ n)
call_bounds n p k q =
    let b = between 1 k n (and_right (leb p n) (number_in_range 1 k n) q) in (leb-true p n (and_left (leb p n) (number_in_range 1 k n) q), b.0, b.1)

pub bounds : (n : ℕ) (s : Step) → in_range n s ≡ true → Bounds n s
bounds n Start q = tt
bounds n (Deliver m p) q = between 1 p n q
bounds n (Copy m p) q = between 1 p n q
bounds n (Lose m p) q = between 1 p n q
bounds n (Step.Call p k) q = call_bounds n p k q
bounds n (Step.CallLost p k) q = call_bounds n p k q
bounds n (Timeout p) q = leb-true p n q
bounds n (Crash p) q = leb-true p n q
bounds n (Restart p) q = leb-true p n q
