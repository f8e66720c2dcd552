-- The host entry: one step of one participant, on numbers. Assumes nothing.
use Rattle.std.specs.Prelude.{Bool, cond, ◌&&◌, List, [], ◌∷◌, ◌++◌, ℕ, ◌-◌, ltb, length, Option, Some, None, Result, Ok, Err}
use Rattle.std.proofs.lemmas.List.Edits.{sets}
use Rattle.number.specs.Refusal.{refusal_number, accepted}
use Rattle.number.specs.Low.{low_bytes}
use Rattle.mask.specs.Mask.{full}
use Rattle.message.specs.Message.{sent_number, not_due, to}
use Rattle.participant.specs.Participant
use Rattle.kind.specs.Kind.{room}
use Rattle.kind.specs.Step.{number_in_range}
use Rattle.event.specs.Event.{event_of, numbers_in_range}
use Rattle.host.specs.Types.{Refusal, Kind, LogRecord, Call, Message, Participant, Transition, Event}

-- An answer counts only where its call is pending; `all` is the mask of all participants, `own` and `j` are places
abbrev pub answers : Option Call → Transition Participant → Transition Participant
answers None t = not_due
answers (Some c) t = t

abbrev pub answered : ℕ → ℕ → Participant → ℕ → LogRecord → Transition Participant
answered all own p j r = answers (Participant.pending own p j) (Participant.on_answer all own p j r)

-- what an event leads to. Events 1 and 2 are always due
abbrev pub on_event : ℕ → ℕ → Participant → Event → Transition Participant
on_event all own p (Event.Request vote) = to (Participant.on_request vote p)
on_event all own p (Event.Decided d) = to (Participant.on_decision d p)
on_event all own p Event.Timeout = Participant.on_timeout all own p
on_event all own p Event.Crash = Participant.on_crash p
on_event all own p Event.Restart = Participant.on_restart p
on_event all own p (Event.Answer log r) = answered all own p (log - 1) r

-- n, own number, state, heard mask, event, detail, record: each in range. Request 2026-03: n up to 32, and masks of 32 bits

abbrev pub among_in_range : ℕ → ℕ → ℕ → ℕ → ℕ → ℕ → ℕ → Bool
among_in_range n own s h e d r = number_in_range 1 own n && (Participant.numbers_in_range (full n) (own - 1) s h && numbers_in_range n e d r)

-- the participant and the event with these numbers
abbrev pub among : ℕ → ℕ → ℕ → ℕ → ℕ → ℕ → ℕ → Option (Participant × Event)
among n own s h e d r = cond (among_in_range n own s h e d r) (Some (Participant.of_numbers s h, event_of e d r)) None

abbrev pub host_in_range : ℕ → ℕ → ℕ → ℕ → ℕ → ℕ → ℕ → Bool
host_in_range n own s h e d r = number_in_range 1 n (room Kind.WideHeader) && among_in_range n own s h e d r

abbrev pub host_transition : ℕ → ℕ → ℕ → ℕ → ℕ → ℕ → ℕ → Transition Participant
host_transition n own s h e d r = on_event (full n) (own - 1) (Participant.of_numbers s h) (event_of e d r)

-- Request 2026-03: six bytes come back: state, heard mask in four, low byte first, message type sent or 0

abbrev pub byte_count : ℕ
byte_count = 6

abbrev pub heard_width : ℕ
heard_width = 4

abbrev pub bytes_of : Participant → Option Message → List ℕ
bytes_of p m = Participant.state_number p ∷ (low_bytes heard_width (Participant.heard_of p) ++ (sent_number m ∷ []))

-- the number that the entry returns: a refusal's, or 0
abbrev pub number_of : Result Unit Refusal → ℕ
number_of (Ok done) = accepted
number_of (Err refusal) = refusal_number refusal

-- the number that a transition returns with a buffer of this length, and what it leaves in the buffer

abbrev pub returned : ℕ → Transition Participant → ℕ
returned room None = refusal_number Refusal.NotDue
returned room (Some (p, m)) = cond (ltb room byte_count) (refusal_number Refusal.TooShort) accepted

abbrev pub left : List ℕ → Transition Participant → List ℕ
left out None = out
left out (Some (p, m)) = cond (ltb (length out) byte_count) out (sets out 0 (bytes_of p m))

-- Host: 5, 7, then 6 for the host's buffer
abbrev pub host_returns : ℕ → ℕ → ℕ → ℕ → ℕ → ℕ → ℕ → ℕ → ℕ
host_returns room n own s h e d r = cond (host_in_range n own s h e d r) (returned room (host_transition n own s h e d r)) (refusal_number Refusal.OutOfRange)

-- Lent bytes are untouched by any refusal, and by success beyond what it writes
abbrev pub host_leaves : List ℕ → ℕ → ℕ → ℕ → ℕ → ℕ → ℕ → ℕ → List ℕ
host_leaves out n own s h e d r = cond (host_in_range n own s h e d r) (left out (host_transition n own s h e d r)) out
