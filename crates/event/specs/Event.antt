-- The host's events, by number, detail and record; unused numbers are 0. Assumes nothing.
use Rattle.std.specs.Prelude.{Bool, true, false, cond, ◌&&◌, [], ◌∷◌, ℕ, eqb, Option, Some, None}
use Rattle.number.specs.Numbering.{numbered, are_numbers3}
use Rattle.store.specs.Log.{record_number, record_of}
use Rattle.kind.specs.Step.{number_in_range}
use Rattle.event.specs.Types.{LogRecord, Decision, Event}

-- Events: 1 request, 2 decision, 3 timeout, 4 crash, 5 restart, 6 answer
abbrev pub event_number : Event → ℕ
event_number (Event.Request vote) = 1
event_number (Event.Decided d) = 2
event_number Event.Timeout = 3
event_number Event.Crash = 4
event_number Event.Restart = 5
event_number (Event.Answer log r) = 6

-- request (detail 1 yes, 0 no)
abbrev pub vote_number : Bool → ℕ
vote_number vote = cond vote 1 0

abbrev pub vote_of : ℕ → Bool
vote_of k = eqb k (vote_number true)

-- decision (detail 2 abort, 3 commit): the number of its log record
abbrev pub decision_record : Decision → LogRecord
decision_record Decision.Commit = LogRecord.Commit
decision_record Decision.Abort = LogRecord.Abort

abbrev pub decision_number : Decision → ℕ
decision_number d = record_number (decision_record d)

abbrev pub decision_of : ℕ → Decision
decision_of k = numbered decision_number Decision.Commit (Decision.Abort ∷ []) k

-- answer of log `detail` with `record`
abbrev pub detail_number : Event → ℕ
detail_number (Event.Request vote) = vote_number vote
detail_number (Event.Decided d) = decision_number d
detail_number Event.Timeout = 0
detail_number Event.Crash = 0
detail_number Event.Restart = 0
detail_number (Event.Answer log r) = log

abbrev pub answer_number : Event → ℕ
answer_number (Event.Request vote) = 0
answer_number (Event.Decided d) = 0
answer_number Event.Timeout = 0
answer_number Event.Crash = 0
answer_number Event.Restart = 0
answer_number (Event.Answer log r) = record_number r

-- back from the numbers
abbrev pub event_of : ℕ → ℕ → ℕ → Event
event_of e d r =
    numbered event_number (Event.Request (vote_of d)) (Event.Decided (decision_of d) ∷ Event.Timeout ∷ Event.Crash ∷ Event.Restart ∷ Event.Answer d (record_of r) ∷ []) e

abbrev pub is_event : ℕ → ℕ → ℕ → Bool
is_event e d r = are_numbers3 event_number detail_number answer_number event_of e d r

-- a log of the n answers with a record 1 to 3
abbrev pub is_written : LogRecord → Bool
is_written LogRecord.None = false
is_written LogRecord.Yes = true
is_written LogRecord.Abort = true
is_written LogRecord.Commit = true

abbrev pub event_in_range : ℕ → Event → Bool
event_in_range n (Event.Request vote) = true
event_in_range n (Event.Decided d) = true
event_in_range n Event.Timeout = true
event_in_range n Event.Crash = true
event_in_range n Event.Restart = true
event_in_range n (Event.Answer log r) = number_in_range 1 log n && is_written r

abbrev pub numbers_in_range : ℕ → ℕ → ℕ → ℕ → Bool
numbers_in_range n e d r = is_event e d r && event_in_range n (event_of e d r)

-- the event among n with these numbers
abbrev pub event_among : ℕ → ℕ → ℕ → ℕ → Option Event
event_among n e d r = cond (numbers_in_range n e d r) (Some (event_of e d r)) None
