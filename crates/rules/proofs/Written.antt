-- The first record of a log, and a call: what holds of it, and of what LogOnce writes, holds afterwards. Assumes nothing.
use Rattle.std.specs.Prelude.{Option}
use Rattle.store.specs.Log.{perform}
use Rattle.rules.specs.Types.{LogRecord, None, Yes, Abort, Commit, LogPair, Call, Logged}

module _ (Q : LogRecord → Type 0) where
  abbrev pub LeavesFirst : Option Logged → Type 0
  LeavesFirst Option.None = Unit {0}
  LeavesFirst (Option.Some x) = Q x.log.first

  -- what the call may write as a first record
  abbrev pub Writes : Option Call → Type 0
  Writes Option.None = Unit {0}
  Writes (Option.Some (Call.LogOnce r)) = Q r
  Writes (Option.Some (Call.Log r)) = Unit {0}

  log_first : (r last first : LogRecord) → Q first → LeavesFirst (perform (Option.Some (Call.Log r)) (record { first = first; last = last }))
  log_first None last first h = tt
  log_first Yes last first h = tt
  log_first Abort None first h = tt
  log_first Abort Yes first h = h
  log_first Abort Abort first h = h
  log_first Abort Commit first h = tt
  log_first Commit None first h = tt
  log_first Commit Yes first h = h
  log_first Commit Abort first h = tt
  log_first Commit Commit first h = h

  once_first : (r first last : LogRecord) → Q r → Q first → LeavesFirst (perform (Option.Some (Call.LogOnce r)) (record { first = first; last = last }))
  once_first r None last k h = k
  once_first r Yes last k h = h
  once_first r Abort last k h = h
  once_first r Commit last k h = h

  pub perform_first : (c : Option Call) (l : LogPair) → Writes c → Q l.first → LeavesFirst (perform c l)
  perform_first Option.None l k h = tt
  perform_first (Option.Some (Call.LogOnce r)) l k h = once_first r l.first l.last k h
  perform_first (Option.Some (Call.Log r)) l k h = log_first r l.last l.first h
