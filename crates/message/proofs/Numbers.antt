-- The numbers of messages and the way back belong together. Assumes nothing.
use mathlib.Core.Path.{◌≡◌, refl}
use Prim.Native.Nat.{◌≤◌}
use lib.Dec.{lit≤}
use Rattle.number.specs.Numbering.{Inverse}
use Rattle.number.proofs.Laws.{inverse}
use Rattle.message.specs.Types.{Message}
use Rattle.message.specs.Message.{type_number, message_of}

message_back : (m : Message) → message_of (type_number m) ≡ m
message_back Message.Request = refl
message_back Message.ReplyYes = refl
message_back Message.ReplyAbort = refl
message_back Message.Commit = refl
message_back Message.Abort = refl

pub message_numbers : Inverse type_number message_of
message_numbers = inverse type_number message_of message_back

pub type_most : (m : Message) → type_number m ≤ 5
type_most Message.Request = lit≤ tt
type_most Message.ReplyYes = lit≤ tt
type_most Message.ReplyAbort = lit≤ tt
type_most Message.Commit = lit≤ tt
type_most Message.Abort = lit≤ tt
