-- What each of the two calls can do, once and for all: a property of the cases is a property of the call. Assumes nothing.
use mathlib.Core.Path.{◌≡◌, refl}
use mathlib.Core.Bool.{Bool, true, false, cond}
use Rattle.std.specs.Prelude.{Option}
use Rattle.store.specs.Log.{is_none, leaves, once_on, log_once, replaces, log, perform}
use Rattle.store.specs.Types.{LogRecord, None, Yes, Abort, Commit, LogPair, Call, Logged}

-- LogOnce writes a log that has no first record, or leaves it
pub once_cases : (P : Logged → Type 0) (r : LogRecord) (l : LogPair) → (l.first ≡ None → P (leaves true (record { first = r; last = r }))) → P (leaves false l)
    → P (log_once r l)
once_cases P r l a b = go l.first refl
  where
    go : (first : LogRecord) → l.first ≡ first → P (leaves (is_none first) (once_on first r l))
    go None e = a e
    go Yes e = b
    go Abort e = b
    go Commit e = b

-- Log is refused, or replaces the last record
pub log_cases : (P : Option Logged → Type 0) (r : LogRecord) (l : LogPair) → P Option.None
    → P (Option.Some (leaves false (record { first = l.first; last = r }))) → P (log r l)
log_cases P r l a b = go (replaces r l.last)
  where
    go : (t : Bool) → P (cond t (Option.Some (leaves false (record { first = l.first; last = r }))) Option.None)
    go true = b
    go false = a

-- a call that is not refused answers the last record afterwards
abbrev pub AnswersLast : Option Logged → Type 0
AnswersLast Option.None = Unit {0}
AnswersLast (Option.Some x) = x.answer ≡ x.log.last

pub perform_answers : (c : Option Call) (l : LogPair) → AnswersLast (perform c l)
perform_answers Option.None l = tt
perform_answers (Option.Some (Call.LogOnce r)) l = refl
perform_answers (Option.Some (Call.Log r)) l = log_cases AnswersLast r l tt refl
