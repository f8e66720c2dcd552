-- The state of a release: what it holds of each participant, log and message, and the fresh release. Places count from 0: participant p and
-- its log stand at p - 1. Assumes nothing.
use Rattle.std.specs.Prelude.{Bool, List, ℕ, suc, ◌-◌, get_or, replicate}
use Rattle.mask.specs.Mask.{has}
use Rattle.store.specs.Log.{empty}
use Rattle.message.specs.Message.{type_number}
use Rattle.rules.specs.Types.{LogRecord, LogPair, Message, Participant, Waiting, Coordinator, Site, Release}

-- the participant at place i
abbrev pub waiting : Site
waiting = record { participant = Waiting }

abbrev pub participant_at : List Site → ℕ → Participant
participant_at sites i = (get_or sites i waiting).participant

abbrev pub participant_of : Release → ℕ → Participant
participant_of r i = participant_at r.sites i

-- the log at place j, its first and its last record
abbrev pub log_at : List LogPair → ℕ → LogPair
log_at logs j = get_or logs j empty

abbrev pub log_of : Release → ℕ → LogPair
log_of r j = log_at r.store.logs j

abbrev pub first_of : Release → ℕ → LogRecord
first_of r j = (log_of r j).first

abbrev pub last_of : Release → ℕ → LogRecord
last_of r j = (log_of r j).last

-- the due store calls that party p has made
abbrev pub calls_of : Release → ℕ → ℕ
calls_of r p = get_or r.calls p 0

-- five message masks, one for each type
abbrev pub types : ℕ
types = 5

-- the mask of the messages of a type: type t stands at t - 1
abbrev pub message_place : Message → ℕ
message_place m = type_number m - 1

abbrev pub mask_at : List ℕ → Message → ℕ
mask_at messages m = get_or messages (message_place m) 0

abbrev pub mask_of : Release → Message → ℕ
mask_of r m = mask_at r.messages m

-- For each type and participant one message is in flight or not
abbrev pub in_flight : Release → Message → ℕ → Bool
in_flight r m i = has i (mask_of r m)

-- A fresh release: every party in state 0, all logs 00, all heard and message masks 0. `places` is how many participants there is room for
abbrev pub fresh : ℕ → ℕ → ℕ → Release
fresh places n votes =
    record {
      n = n;
      votes = votes;
      coordinator = Coordinator.Idle;
      messages = replicate types 0;
      sites = replicate places waiting;
      store = record { logs = replicate places empty };
      calls = replicate (suc places) 0;
    }
