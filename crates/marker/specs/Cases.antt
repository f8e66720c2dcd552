-- Document 01's cases P1 to P13, P1 as request 2026-01 amends it: the schedule's bytes or the log call, and what it must give. One theorem covers
-- the table: proofs/Cases.antt. Assumes nothing.
use Rattle.std.specs.Prelude.{◌≡◌, false, List, [], ◌∷◌, ℕ, suc, ◌+◌, take}
use Rattle.number.specs.Refusal.{refusal_number}
use Rattle.store.specs.Entry.{EntryHanded, log_once_entry, log_entry}
use Rattle.schedule.specs.Schedule.{Reading, Accepted, Refused, read_schedule}
use Rattle.rules.specs.Report.{outcome_number, closed_adds}
use Rattle.rules.specs.Run.{after}
use Rattle.passes.specs.Pass.{fresh_of, step_bytes}
use Rattle.marker.specs.Types.{LogRecord, LogPair, Outcome}

-- a schedule's bytes, or a call on a log
pub data Given : Type 0 where
  Schedule : List ℕ → Given
  LogOnce : LogRecord → LogPair → Given
  Log : LogRecord → LogPair → Given

-- the steps' bytes, the counts of parties 0 to n and the logs of participants 1 to n; a refusal's number and place; or what a log entry hands
pub data Gives : Type 0 where
  Reports : List ℕ → List ℕ → List LogPair → Gives
  Refuses : ℕ → ℕ → Gives
  Hands : EntryHanded → Gives

abbrev pub reading_gives : Reading → Gives
reading_gives (Accepted h steps) =
    Reports (step_bytes (fresh_of h) steps) (take (suc h.n) (after (fresh_of h) steps).calls) (take h.n (after (fresh_of h) steps).store.logs)
reading_gives (Refused k place) = Refuses (refusal_number k) place

abbrev pub gives : Given → Gives
gives (Schedule bytes) = reading_gives (read_schedule bytes)
gives (LogOnce r l) = Hands (log_once_entry l r)
gives (Log r l) = Hands (log_entry l r)

-- words of the table

abbrev idle : ℕ
idle = outcome_number Outcome.Idle

abbrev moved : ℕ
moved = outcome_number Outcome.Moved

abbrev commit : ℕ
commit = outcome_number Outcome.Commit

abbrev abort : ℕ
abort = outcome_number Outcome.Abort

-- with the word `closed`
abbrev closed : ℕ → ℕ
closed k = k + closed_adds

-- pairs of records, by their letters: n none, y yes, a abort, c commit

abbrev nn : LogPair
nn = record { first = LogRecord.None; last = LogRecord.None }

abbrev ya : LogPair
ya = record { first = LogRecord.Yes; last = LogRecord.Abort }

abbrev yc : LogPair
yc = record { first = LogRecord.Yes; last = LogRecord.Commit }

abbrev aa : LogPair
aa = record { first = LogRecord.Abort; last = LogRecord.Abort }

-- a log entry's answer and the log after it, where the call wrote nothing
abbrev answers : ℕ → LogPair → Gives
answers r l = Hands (record { number = 0; answer = r; wrote = false; log = l })

-- a log entry's refusal, with the log as given
abbrev refuses : ℕ → LogPair → Gives
refuses k l = Hands (record { number = k; answer = 0; wrote = false; log = l })

pub record Case : Type 0 where
  pub given : Given
  pub must : Gives

abbrev case : Given → Gives → Case
case x y = record { given = x; must = y }

abbrev pub cases : List Case
cases =
    -- P1
    case
    (Schedule
    (0x01 ∷ 0x02 ∷ 0x03 ∷ 0x02 ∷ 0x03 ∷ 0x01 ∷ 0x01 ∷ 0x06 ∷ 0x01 ∷ 0x01 ∷ 0x08 ∷ 0x01 ∷ 0x06 ∷ 0x01 ∷ 0x02 ∷ 0x06 ∷ 0x01 ∷ 0x01 ∷ 0x03 ∷ 0x01 ∷ 0x02 ∷ 0x06 ∷ 0x02 ∷ 0x02 ∷ []))
    (Reports (moved ∷ moved ∷ moved ∷ moved ∷ closed abort ∷ moved ∷ moved ∷ abort ∷ []) (0 ∷ 3 ∷ 1 ∷ []) (ya ∷ aa ∷ []))
    -- P2: with n = 1 the timeout leads to a commit
    ∷ case (Schedule (0x01 ∷ 0x01 ∷ 0x01 ∷ 0x02 ∷ 0x03 ∷ 0x01 ∷ 0x01 ∷ 0x06 ∷ 0x01 ∷ 0x01 ∷ 0x08 ∷ 0x01 ∷ 0x06 ∷ 0x01 ∷ 0x01 ∷ []))
    (Reports (moved ∷ moved ∷ moved ∷ commit ∷ moved ∷ []) (0 ∷ 2 ∷ []) (yc ∷ []))
    -- P3: a restarted participant closes its log
    ∷ case (Schedule (0x01 ∷ 0x02 ∷ 0x03 ∷ 0x09 ∷ 0x01 ∷ 0x0A ∷ 0x01 ∷ 0x06 ∷ 0x01 ∷ 0x01 ∷ []))
    (Reports (moved ∷ moved ∷ abort ∷ []) (0 ∷ 1 ∷ 0 ∷ []) (aa ∷ nn ∷ []))
    -- P4: LogOnce yes on 22 answers abort
    ∷ case (LogOnce LogRecord.Yes aa) (answers 2 aa)
    -- P5: LogOnce abort on 13 answers commit
    ∷ case (LogOnce LogRecord.Abort yc) (answers 3 yc)
    -- P6: Log commit on 00
    ∷ case (Log LogRecord.Commit nn) (refuses 9 nn)
    -- P7: empty
    ∷ case (Schedule []) (Refuses 1 0)
    -- P8: accepted, no steps
    ∷ case (Schedule (0x01 ∷ 0x08 ∷ 0xFF ∷ []))
    (Reports [] (0 ∷ 0 ∷ 0 ∷ 0 ∷ 0 ∷ 0 ∷ 0 ∷ 0 ∷ 0 ∷ []) (nn ∷ nn ∷ nn ∷ nn ∷ nn ∷ nn ∷ nn ∷ nn ∷ []))
    -- P9 to P12
    ∷ case (Schedule (0x01 ∷ 0x09 ∷ 0x00 ∷ [])) (Refuses 5 0)
    ∷ case (Schedule (0x01 ∷ 0x01 ∷ 0x02 ∷ [])) (Refuses 5 0)
    ∷ case (Schedule (0x02 ∷ [])) (Refuses 4 0)
    ∷ case (Schedule (0x01 ∷ 0x01 ∷ 0x01 ∷ 0x06 ∷ 0x01 ∷ [])) (Refuses 3 3)
    -- P13: idle
    ∷ case (Schedule (0x01 ∷ 0x01 ∷ 0x01 ∷ 0x08 ∷ 0x00 ∷ [])) (Reports (idle ∷ []) (0 ∷ 0 ∷ []) (nn ∷ []))
    ∷ []

abbrev pub AllGive : List Case → Type 0
AllGive [] = Unit {0}
AllGive (c ∷ cs) = (gives c.given ≡ c.must) × AllGive cs

abbrev pub CasesHold : Type 0
CasesHold = AllGive cases
