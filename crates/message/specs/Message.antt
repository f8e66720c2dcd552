-- The types of messages, by number, and what an event leads a party to. Assumes nothing.
use Rattle.std.specs.Prelude.{Bool, [], ◌∷◌, ℕ, Option, Some, None}
use Rattle.number.specs.Numbering.{numbered, is_number}
use Rattle.message.specs.Types.{Message}

-- Types: 1 request, 2 reply yes, 3 reply abort, 4 commit, 5 abort
abbrev pub type_number : Message → ℕ
type_number Message.Request = 1
type_number Message.ReplyYes = 2
type_number Message.ReplyAbort = 3
type_number Message.Commit = 4
type_number Message.Abort = 5

abbrev pub message_of : ℕ → Message
message_of k = numbered type_number Message.Request (Message.ReplyYes ∷ Message.ReplyAbort ∷ Message.Commit ∷ Message.Abort ∷ []) k

abbrev pub is_message : ℕ → Bool
is_message k = is_number type_number message_of k

-- message type sent or 0
abbrev pub sent_number : Option Message → ℕ
sent_number None = 0
sent_number (Some m) = type_number m

-- what an event leads a party to: nothing where it is not due; else its next state, and the message that it sends, if any

abbrev pub Transition : Type 0 → Type 0
Transition P = Option (P × Option Message)

abbrev pub not_due : {P : Type 0} → Transition P
not_due = None

-- to a state, with nothing sent, or with a message sent

abbrev pub to : {P : Type 0} → P → Transition P
to p = Some (p, None)

abbrev pub sends : {P : Type 0} → Message → P → Transition P
sends m p = Some (p, Some m)
