-- The entry takes a decision in 3 and in 4. Assumes nothing.
use mathlib.Core.Path.{◌≡◌, refl}
use mathlib.Core.Logic.{inl, inr}
use mathlib.Core.Bool.{true, false}
use mathlib.Core.List.{List}
use Prim.Native.Nat.{ℕ}
use lib.Dec.{ltb}
use lib.ListN.{length}
use borrow.Author.Tests.{le-ltb}
use Rattle.event.specs.Event.{decision_number}
use Rattle.host.specs.Host.{host_in_range}
use Rattle.host.specs.Decision.{HostTakes, HostTakesDecision}
use Rattle.host.specs.Types.{Decision}

module _ (out : List ℕ) (n own h : ℕ) (room : ltb (length out) 6 ≡ false) where
  in_3 : (d : Decision) → host_in_range n own 3 h 2 (decision_number d) 0 ≡ true → HostTakes out n own 3 h d
  in_3 Decision.Commit q = record { returns = rw (q, room) refl; leaves = rw (q, room) refl }
  in_3 Decision.Abort q = record { returns = rw (q, room) refl; leaves = rw (q, room) refl }

  in_4 : (d : Decision) → host_in_range n own 4 h 2 (decision_number d) 0 ≡ true → HostTakes out n own 4 h d
  in_4 Decision.Commit q = record { returns = rw (q, room) refl; leaves = rw (q, room) refl }
  in_4 Decision.Abort q = record { returns = rw (q, room) refl; leaves = rw (q, room) refl }

pub host_takes_decision : HostTakesDecision
host_takes_decision out n own s h d (inl e) q room = rw e (in_3 out n own h (le-ltb (length out) 6 room) d (rw e at q))
host_takes_decision out n own s h d (inr e) q room = rw e (in_4 out n own h (le-ltb (length out) 6 room) d (rw e at q))
