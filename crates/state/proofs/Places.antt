-- Where the mask of a type of message stands. Assumes nothing.
use mathlib.Core.Path.{◌≡◌, refl}
use Prim.Native.Nat.{◌+◌, ◌<◌}
use lib.Dec.{lit<}
use Rattle.message.specs.Message.{type_number}
use Rattle.state.specs.Types.{Message}
use Rattle.state.specs.Fields.{states_from, mask_place}

pub mask_place_lem : (m : Message) → 3 + type_number m ≡ mask_place m
unfolding mask_place
mask_place_lem Message.Request = refl
mask_place_lem Message.ReplyYes = refl
mask_place_lem Message.ReplyAbort = refl
mask_place_lem Message.Commit = refl
mask_place_lem Message.Abort = refl

-- before the states of the participants
pub mask_first : (m : Message) → mask_place m < states_from
unfolding mask_place
mask_first Message.Request = lit< tt
mask_first Message.ReplyYes = lit< tt
mask_first Message.ReplyAbort = lit< tt
mask_first Message.Commit = lit< tt
mask_first Message.Abort = lit< tt
