-- What a test of room tells of an answer. Assumes nothing.
use mathlib.Core.Path.{◌≡◌, refl}
use mathlib.Core.Bool.{Bool, true, false, cond}
use Prim.Native.Nat.{ℕ, ◌≤◌}
use native.Mathlib.Omega.{arith}
use lib.Dec.{ltb}
use borrow.Author.Tests.{ltb-false}
use Rattle.std.specs.Prelude.{Ok, Err}
use Rattle.number.specs.Refusal.{refused}
use Rattle.writer.specs.Types.{Refusal}
use Rattle.writer.specs.Writer.{room_answer}

-- an answer that is done has room for all that is needed
pub room_done : (room needed end : ℕ) → room_answer room needed ≡ Ok end → (end ≡ needed) × (needed ≤ room)
room_done room needed end e = go (ltb room needed) refl e
  where
    go : (b : Bool) → ltb room needed ≡ b → cond b (Err (refused Refusal.TooShort needed)) (Ok needed) ≡ Ok end → (end ≡ needed) × (needed ≤ room)
    go true t e = let z : ◌≡◌ {A = ℕ} 0 1 = cc in absurd (omega arith)
    go false t e = (cc, ltb-false room needed t)
