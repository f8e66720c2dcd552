-- The bytes of a tail in each of its forms, and the fields that they hold. A form is how many participants have fields, and how many bytes a mask
-- has. Assumes nothing.
use Rattle.std.specs.Prelude.{cond, List, ◌++◌, ℕ, suc, ◌+◌, ◌*◌, ◌/◌, ◌≤◌, ltb, take, drop}
use Rattle.number.specs.Table.{tabulate}
use Rattle.number.specs.Low.{low_bytes, low_number}
use Rattle.text.specs.Put.{each}
use Rattle.store.specs.Log.{places}
use Rattle.kind.specs.Kind.{room}
use Rattle.rules.specs.State.{types}
use Rattle.tail.specs.Tail.{zeros}
use Rattle.form.specs.Types.{Kind, ParticipantFields, Tail, Form}

-- the form of the tail under a header of that kind: fields for each participant that it has room for, and a bit for each in a mask
abbrev pub form_of : Kind → Form
form_of k = record { places = room k; width = (room k + 7) / 8 }

-- the form under header 01: eight participants, a mask in a byte
abbrev pub narrow : Form
narrow = form_of Kind.Header

-- request 2026-03, under header 0B: 32 participants, a mask in four bytes
abbrev pub wide : Form
wide = form_of Kind.WideHeader

-- a form that the code can read and put: no more participants than there are places, and a mask's bytes in one number
abbrev pub FormFits : Form → Type 0
FormFits f = (f.places ≤ places) × (f.width ≤ 4)

-- how many bytes n, a state and a log record have, and a count; a mask has the form's width

abbrev pub number_width : ℕ
number_width = 1

abbrev pub count_width : ℕ
count_width = 2

-- n, votes, the coordinator's state and heard mask
abbrev pub head_bytes : ℕ → ℕ → ℕ → ℕ → ℕ → List ℕ
head_bytes w n votes state heard = low_bytes number_width n ++ (low_bytes w votes ++ (low_bytes number_width state ++ low_bytes w heard))

-- a participant: state, heard mask, first, last
abbrev pub field_bytes : ℕ → ParticipantFields → List ℕ
field_bytes w p = low_bytes number_width p.state ++ (low_bytes w p.heard ++ (low_bytes number_width p.first ++ low_bytes number_width p.last))

-- The tail: n, votes, coordinator state and heard mask, five message masks; for each participant of the form state, heard mask, first, last (zeros
-- beyond n); for each party of the form the due store calls made, two bytes, low first
abbrev pub tail_bytes : Form → Tail → List ℕ
tail_bytes f t =
    head_bytes f.width t.n t.votes t.state t.heard
    ++ (each (low_bytes f.width) t.messages
    ++ (each (field_bytes f.width) (take f.places t.participants)
    ++ each (low_bytes count_width) (take (suc f.places) t.calls)))

-- where its parts begin

abbrev pub votes_at : ℕ
votes_at = number_width

abbrev pub state_at : ℕ → ℕ
state_at w = votes_at + w

abbrev pub heard_at : ℕ → ℕ
heard_at w = state_at w + number_width

abbrev pub messages_at : ℕ → ℕ
messages_at w = heard_at w + w

abbrev pub participants_at : ℕ → ℕ
participants_at w = messages_at w + types * w

-- a participant's numbers: its state, then the heard mask, and two records

abbrev pub own_heard_at : ℕ
own_heard_at = number_width

abbrev pub first_at : ℕ → ℕ
first_at w = own_heard_at + w

abbrev pub last_at : ℕ → ℕ
last_at w = first_at w + number_width

abbrev pub participant_length : ℕ → ℕ
participant_length w = last_at w + number_width

abbrev pub counts_at : Form → ℕ
counts_at f = participants_at f.width + f.places * participant_length f.width

abbrev pub tail_length : Form → ℕ
tail_length f = counts_at f + suc f.places * count_width

-- the fields that bytes of a form hold: zeros beyond its participants

abbrev pub number_at : ℕ → ℕ → List ℕ → ℕ
number_at w place bytes = low_number w (drop place bytes)

abbrev pub message_at : ℕ → List ℕ → ℕ → ℕ
message_at w bytes k = number_at w (messages_at w + k * w) bytes

abbrev pub fields_at : ℕ → ℕ → List ℕ → ParticipantFields
fields_at w place bytes =
    record {
      state = number_at number_width place bytes;
      heard = number_at w (place + own_heard_at) bytes;
      first = number_at number_width (place + first_at w) bytes;
      last = number_at number_width (place + last_at w) bytes;
    }

abbrev pub participant_at : Form → List ℕ → ℕ → ParticipantFields
participant_at f bytes i =
    cond (ltb i f.places) (fields_at f.width (participants_at f.width + i * participant_length f.width) bytes) zeros

abbrev pub count_at : Form → List ℕ → ℕ → ℕ
count_at f bytes p = cond (ltb p (suc f.places)) (number_at count_width (counts_at f + p * count_width) bytes) 0

abbrev pub tail_at : Form → List ℕ → Tail
tail_at f bytes =
    record {
      n = number_at number_width 0 bytes;
      votes = number_at f.width votes_at bytes;
      state = number_at number_width (state_at f.width) bytes;
      heard = number_at f.width (heard_at f.width) bytes;
      messages = tabulate types (message_at f.width bytes);
      participants = tabulate places (participant_at f bytes);
      calls = tabulate (suc places) (count_at f bytes);
    }
