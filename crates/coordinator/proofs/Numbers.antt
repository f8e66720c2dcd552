-- The numbers of a coordinator's states, with their heard masks, and the way back belong together. Assumes nothing.
use mathlib.Core.Path.{◌≡◌, refl}
use mathlib.Core.Bool.{true}
use Prim.Native.Nat.{ℕ, ◌≤◌}
use lib.Dec.{lit≤}
use Rattle.mask.specs.Mask.{full, within}
use Rattle.mask.proofs.Laws.{none_within}
use Rattle.number.specs.Numbering.{Inverse2}
use Rattle.number.proofs.Laws.{and_left, inverse2}
use Rattle.coordinator.specs.Types.{Coordinator}
use Rattle.coordinator.specs.Coordinator

coordinator_decoded : (c : Coordinator) → Coordinator.of_numbers (Coordinator.state_number c) (Coordinator.heard_of c) ≡ c
coordinator_decoded Coordinator.Idle = refl
coordinator_decoded (Coordinator.Waiting h) = refl
coordinator_decoded (Coordinator.Terminating h) = refl
coordinator_decoded Coordinator.Commit = refl
coordinator_decoded Coordinator.Abort = refl
coordinator_decoded Coordinator.Down = refl
coordinator_decoded Coordinator.Retired = refl

pub coordinator_numbers : Inverse2 Coordinator.state_number Coordinator.heard_of Coordinator.of_numbers
coordinator_numbers = inverse2 Coordinator.state_number Coordinator.heard_of Coordinator.of_numbers coordinator_decoded

pub state_most : (c : Coordinator) → Coordinator.state_number c ≤ 6
state_most Coordinator.Idle = lit≤ tt
state_most (Coordinator.Waiting h) = lit≤ tt
state_most (Coordinator.Terminating h) = lit≤ tt
state_most Coordinator.Commit = lit≤ tt
state_most Coordinator.Abort = lit≤ tt
state_most Coordinator.Down = lit≤ tt
state_most Coordinator.Retired = lit≤ tt

-- a heard mask in range has nobody beyond n
pub heard_within : (n : ℕ) (c : Coordinator) → Coordinator.in_range (full n) c ≡ true → within n (Coordinator.heard_of c) ≡ true
heard_within n Coordinator.Idle q = none_within n
heard_within n (Coordinator.Waiting h) q = and_left (within n h) _ q
heard_within n (Coordinator.Terminating h) q = and_left (within n h) _ q
heard_within n Coordinator.Commit q = none_within n
heard_within n Coordinator.Abort q = none_within n
heard_within n Coordinator.Down q = none_within n
heard_within n Coordinator.Retired q = none_within n
