-- One log: its records, the pairs allowed, and the two calls. The rules of a release and the log entries cite them. Assumes nothing.
use Rattle.std.specs.Prelude.{Bool, true, false, cond, ◌&&◌, [], ◌∷◌, ℕ, Option, Result}
use Rattle.number.specs.Numbering.{numbered, is_number}
use Rattle.store.specs.Types.{LogRecord, None, Yes, Abort, Commit, LogPair, Call, Logged, Refusal}

-- Log records: 0 none, 1 yes, 2 abort, 3 commit
abbrev pub record_number : LogRecord → ℕ
record_number None = 0
record_number Yes = 1
record_number Abort = 2
record_number Commit = 3

abbrev pub record_of : ℕ → LogRecord
record_of k = numbered record_number None (Yes ∷ Abort ∷ Commit ∷ []) k

abbrev pub is_record : ℕ → Bool
is_record k = is_number record_number record_of k

-- the record with number k; where there is none, the number is out of range
abbrev pub record_with : ℕ → Result LogRecord Refusal
record_with k = cond (is_record k) (Result.Ok (record_of k)) (Result.Err Refusal.OutOfRange)

abbrev pub is_none : LogRecord → Bool
is_none None = true
is_none Yes = false
is_none Abort = false
is_none Commit = false

abbrev pub is_abort : LogRecord → Bool
is_abort None = false
is_abort Yes = false
is_abort Abort = true
is_abort Commit = false

-- How many logs make the store: the places of every release. A header says how many of them have participants
abbrev pub places : ℕ
places = 32

abbrev pub empty : LogPair
empty = record { first = None; last = None }

-- pairs allowed are 00, 11, 12, 13, 22
abbrev pub allowed : LogRecord → LogRecord → Bool
allowed None None = true
allowed None Yes = false
allowed None Abort = false
allowed None Commit = false
allowed Yes None = false
allowed Yes Yes = true
allowed Yes Abort = true
allowed Yes Commit = true
allowed Abort None = false
allowed Abort Yes = false
allowed Abort Abort = true
allowed Abort Commit = false
allowed Commit last = false

abbrev pub is_allowed : LogPair → Bool
is_allowed l = allowed l.first l.last

-- a call answers the last record afterwards and says, by request 2026-01, whether it wrote the first one
abbrev pub leaves : Bool → LogPair → Logged
leaves wrote l = record { answer = l.last; wrote = wrote; log = l }

-- LogOnce: on an empty log it writes the record as first and last; any other log stays
abbrev pub once_on : LogRecord → LogRecord → LogPair → LogPair
once_on None r l = record { first = r; last = r }
once_on Yes r l = l
once_on Abort r l = l
once_on Commit r l = l

abbrev pub log_once : LogRecord → LogPair → Logged
log_once r l = leaves (is_none l.first) (once_on l.first r l)

-- Log: takes abort or commit and replaces the last record, never the first. Refused on an empty log, commit after abort, abort after commit
abbrev pub replaces : LogRecord → LogRecord → Bool
replaces None last = false
replaces Yes last = false
replaces Abort None = false
replaces Abort Yes = true
replaces Abort Abort = true
replaces Abort Commit = false
replaces Commit None = false
replaces Commit Yes = true
replaces Commit Abort = false
replaces Commit Commit = true

abbrev pub log : LogRecord → LogPair → Option Logged
log r l = cond (replaces r l.last) (Option.Some (leaves false (record { first = l.first; last = r }))) Option.None

-- what a party's call, if it has one, makes of a log
abbrev pub perform : Option Call → LogPair → Option Logged
perform Option.None l = Option.None
perform (Option.Some (Call.LogOnce r)) l = Option.Some (log_once r l)
perform (Option.Some (Call.Log r)) l = log r l

-- the call wrote the first record, an abort
abbrev pub wrote_abort : Logged → Bool
wrote_abort x = x.wrote && is_abort x.answer
