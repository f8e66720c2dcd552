-- The log entries on worked logs, in document 01's numbers, P4 to P6 among them. One theorem covers the table. Assumes nothing.
use mathlib.Core.Path.{◌≡◌, refl}
use mathlib.Core.Bool.{Bool, true, false}
use mathlib.Core.List.{List, [], ◌∷◌, map}
use Prim.Native.Nat.{ℕ}
use Rattle.store.specs.Types.{LogRecord, LogPair}
use Rattle.store.specs.Log.{record_of}
use Rattle.store.specs.Entry.{EntryHanded, log_once_entry, log_entry}

-- an entry, its record and its log; what it must hand over
record Case : Type 0 where
  entry : LogPair → LogRecord → EntryHanded
  given : LogRecord
  log : LogPair
  must : EntryHanded

-- words of the table: a log by the numbers of its first and last record; an answer's number, whether the call wrote, and the log afterwards

abbrev pair : ℕ → ℕ → LogPair
pair a b = record { first = record_of a; last = record_of b }

abbrev case : (LogPair → LogRecord → EntryHanded) → ℕ → LogPair → EntryHanded → Case
case entry r l x = record { entry = entry; given = record_of r; log = l; must = x }

abbrev answers : ℕ → Bool → LogPair → EntryHanded
answers r wrote l = record { number = 0; answer = r; wrote = wrote; log = l }

abbrev refuses : ℕ → LogPair → EntryHanded
refuses k l = record { number = k; answer = 0; wrote = false; log = l }

abbrev cases : List Case
cases =
    -- LogOnce writes an empty log
    case log_once_entry 1 (pair 0 0) (answers 1 true (pair 1 1))
    ∷ case log_once_entry 2 (pair 0 0) (answers 2 true (pair 2 2))
    -- P4, P5, and other logs that have their records
    ∷ case log_once_entry 1 (pair 2 2) (answers 2 false (pair 2 2))
    ∷ case log_once_entry 2 (pair 1 3) (answers 3 false (pair 1 3))
    ∷ case log_once_entry 1 (pair 1 1) (answers 1 false (pair 1 1))
    ∷ case log_once_entry 2 (pair 1 1) (answers 1 false (pair 1 1))
    ∷ case log_once_entry 1 (pair 1 2) (answers 2 false (pair 1 2))
    -- Log replaces the last record
    ∷ case log_entry 2 (pair 1 1) (answers 2 false (pair 1 2))
    ∷ case log_entry 3 (pair 1 1) (answers 3 false (pair 1 3))
    ∷ case log_entry 2 (pair 1 2) (answers 2 false (pair 1 2))
    ∷ case log_entry 3 (pair 1 3) (answers 3 false (pair 1 3))
    ∷ case log_entry 2 (pair 2 2) (answers 2 false (pair 2 2))
    -- 9: P6, abort on an empty log; commit after abort; abort after commit
    ∷ case log_entry 3 (pair 0 0) (refuses 9 (pair 0 0))
    ∷ case log_entry 2 (pair 0 0) (refuses 9 (pair 0 0))
    ∷ case log_entry 3 (pair 2 2) (refuses 9 (pair 2 2))
    ∷ case log_entry 3 (pair 1 2) (refuses 9 (pair 1 2))
    ∷ case log_entry 2 (pair 1 3) (refuses 9 (pair 1 3))
    -- 8: LogOnce of none and of commit; Log of none and of yes, also where no Log would be refused
    ∷ case log_once_entry 0 (pair 0 0) (refuses 8 (pair 0 0))
    ∷ case log_once_entry 3 (pair 0 0) (refuses 8 (pair 0 0))
    ∷ case log_once_entry 3 (pair 1 3) (refuses 8 (pair 1 3))
    ∷ case log_entry 0 (pair 0 0) (refuses 8 (pair 0 0))
    ∷ case log_entry 1 (pair 0 0) (refuses 8 (pair 0 0))
    ∷ case log_entry 1 (pair 1 1) (refuses 8 (pair 1 1))
    -- 5: a forbidden pair, before 8 and 9
    ∷ case log_once_entry 1 (pair 0 1) (refuses 5 (pair 0 1))
    ∷ case log_once_entry 2 (pair 3 3) (refuses 5 (pair 3 3))
    ∷ case log_once_entry 0 (pair 2 1) (refuses 5 (pair 2 1))
    ∷ case log_once_entry 3 (pair 1 0) (refuses 5 (pair 1 0))
    ∷ case log_entry 2 (pair 2 3) (refuses 5 (pair 2 3))
    ∷ case log_entry 1 (pair 0 2) (refuses 5 (pair 0 2))
    ∷ case log_entry 3 (pair 3 0) (refuses 5 (pair 3 0))
    ∷ []

cases_hold : map (λ c. c.entry c.log c.given) cases ≡ map (λ c. c.must) cases
cases_hold = refl
