-- Nothing is lost in the six bytes: for all numbers in range they hold the next state, who is heard by then, and the message sent. Proved in
-- proofs/Handed.antt. Assumes nothing.
use Rattle.std.specs.Prelude.{◌≡◌, true, List, ℕ, ◌≤◌, length, get_or, drop, Option, Some}
use Rattle.number.specs.Low.{low_number}
use Rattle.message.specs.Message.{sent_number}
use Rattle.participant.specs.Participant
use Rattle.host.specs.Types.{Participant, Message}
use Rattle.host.specs.Host.{byte_count, heard_width, host_in_range, host_transition, host_leaves}

pub record Holds (out : List ℕ) (p : Participant) (m : Option Message) : Type 0 where
  pub state : get_or out 0 0 ≡ Participant.state_number p
  pub heard : low_number heard_width (drop 1 out) ≡ Participant.heard_of p
  pub sent : get_or out 5 0 ≡ sent_number m

abbrev pub HostHandsOver : Type 0
HostHandsOver =
    (out : List ℕ) (n own s h e d r : ℕ) (p : Participant) (m : Option Message) → host_in_range n own s h e d r ≡ true
    → host_transition n own s h e d r ≡ Some (p, m) → byte_count ≤ length out → Holds (host_leaves out n own s h e d r) p m
