-- The masks of a release: two types of messages never share a place. Assumes nothing.
use mathlib.Core.Path.{◌≡◌, refl, sym, ap, ◌∙◌}
use Prim.Native.Nat.{suc}
use Rattle.message.specs.Message.{message_of}
use Rattle.rules.specs.State.{message_place}
use Rattle.rules.specs.Types.{Message}

message_back : (m : Message) → message_of (suc (message_place m)) ≡ m
message_back Message.Request = refl
message_back Message.ReplyYes = refl
message_back Message.ReplyAbort = refl
message_back Message.Commit = refl
message_back Message.Abort = refl

pub same_message : (k m : Message) → message_place k ≡ message_place m → k ≡ m
same_message k m q = sym (message_back k) ∙ ap (λ i. message_of (suc i)) q ∙ message_back m
