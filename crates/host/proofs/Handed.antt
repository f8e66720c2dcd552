-- The six bytes hold the next participant and the message sent. Assumes nothing.
use mathlib.Core.Path.{◌≡◌, refl, subst, sym}
use mathlib.Core.List.{List, ◌∷◌, ◌++◌}
use Prim.Native.Nat.{ℕ, ◌^◌, ◌≤◌, ◌<◌}
use native.Mathlib.Omega.{arith}
use lib.ListN.{length, drop}
use lib.Seq.{sets, sets-eq}
use borrow.Author.Tests.{le-ltb}
use Rattle.std.specs.Prelude.{Option}
use Rattle.number.proofs.LowBytes.{low_back}
use Rattle.message.specs.Message.{sent_number}
use Rattle.participant.specs.Participant
use Rattle.host.specs.Types.{Participant, Message}
use Rattle.host.specs.Host.{byte_count, heard_width, bytes_of, host_leaves}
use Rattle.host.specs.Handed.{Holds, HostHandsOver}
use Rattle.host.proofs.Laws.{heard_fits}

holds : (out : List ℕ) (p : Participant) (m : Option Message) → Participant.heard_of p < 256 ^ heard_width → byte_count ≤ length out → Holds (sets out 0 (bytes_of p m)) p m
holds out p m fits room =
    let rest : List ℕ = drop byte_count out in
    let put : sets out 0 (bytes_of p m) ≡ bytes_of p m ++ rest = sets-eq (bytes_of p m) out 0 (omega arith) in
    rw put (record { state = refl; heard = low_back heard_width (Participant.heard_of p) (sent_number m ∷ rest) fits; sent = refl })

pub host_hands_over : HostHandsOver
host_hands_over out n own s h e d r p m q t room =
    let there : host_leaves out n own s h e d r ≡ sets out 0 (bytes_of p m) = rw (q, t, le-ltb (length out) byte_count room) refl in
    subst (λ l. Holds l p m) (sym there) (holds out p m (heard_fits n own s h e d r p m q t) room)
