-- The log entries: what each hands over, for every log and record. Order: 5, 8, 9. Assumes nothing.
use Rattle.std.specs.Prelude.{◌≡◌, ◌≢◌, Bool, true, false, cond, ℕ, Option, Result}
use Rattle.number.specs.Refusal.{refusal_number, accepted}
use Rattle.store.specs.Types.{LogRecord, None, Yes, Abort, Commit, LogPair, Logged, Refusal}
use Rattle.store.specs.Log.{record_number, is_allowed, log_once, log}

-- the refusal's number or 0, the number of the record answered or 0, whether this call wrote the first record, and the log
pub record EntryHanded : Type 0 where
  pub number : ℕ
  pub answer : ℕ
  pub wrote : Bool
  pub log : LogPair

abbrev pub done : Logged → EntryHanded
done x = record { number = accepted; answer = record_number x.answer; wrote = x.wrote; log = x.log }

-- a refusal hands the log back as given, not written
abbrev pub refused : Refusal → LogPair → EntryHanded
refused k l = record { number = refusal_number k; answer = 0; wrote = false; log = l }

-- what an entry's answer for a log stands for
abbrev pub handed : LogPair → Result Logged Refusal → EntryHanded
handed l (Result.Ok x) = done x
handed l (Result.Err k) = refused k l

-- LogOnce takes yes or abort
abbrev pub log_once_takes : LogRecord → LogPair → EntryHanded
log_once_takes None l = refused Refusal.WrongRecord l
log_once_takes Yes l = done (log_once Yes l)
log_once_takes Abort l = done (log_once Abort l)
log_once_takes Commit l = refused Refusal.WrongRecord l

abbrev pub log_once_entry : LogPair → LogRecord → EntryHanded
log_once_entry l r = cond (is_allowed l) (log_once_takes r l) (refused Refusal.OutOfRange l)

-- Log takes abort or commit
abbrev pub log_hands : Option Logged → LogPair → EntryHanded
log_hands Option.None l = refused Refusal.RefusedByRule l
log_hands (Option.Some x) l = done x

abbrev pub log_takes : LogRecord → LogPair → EntryHanded
log_takes None l = refused Refusal.WrongRecord l
log_takes Yes l = refused Refusal.WrongRecord l
log_takes Abort l = log_hands (log Abort l) l
log_takes Commit l = log_hands (log Commit l) l

abbrev pub log_entry : LogPair → LogRecord → EntryHanded
log_entry l r = cond (is_allowed l) (log_takes r l) (refused Refusal.OutOfRange l)

-- What a call hands over of log l says that it wrote where there was no first record before and is one afterwards; else the first record is as it was
pub record SaysWrote (l : LogPair) (h : EntryHanded) : Type 0 where
  pub wrote : h.wrote ≡ true → (l.first ≡ None) × (h.log.first ≢ None)
  pub not_wrote : h.wrote ≡ false → h.log.first ≡ l.first

-- so do both entries, for every log and record. Proved in proofs/Wrote.antt
abbrev pub WroteAsWritten : Type 0
WroteAsWritten = (l : LogPair) (r : LogRecord) → SaysWrote l (log_once_entry l r) × SaysWrote l (log_entry l r)
