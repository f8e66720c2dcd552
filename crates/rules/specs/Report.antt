-- What a step reports. 2 and 3 mark the step in which a party comes to know its decision; 4 is added where it closes another's log. Assumes nothing.
use Rattle.std.specs.Prelude.{Bool, true, false, cond, not, ◌&&◌, [], ◌∷◌, ℕ, suc, ◌+◌, ◌%◌, eqb, leb}
use Rattle.number.specs.Numbering.{numbered}
use Rattle.store.specs.Log.{wrote_abort}
use Rattle.rules.specs.Types.{Logged, Participant, Waiting, VotingYes, Closing, Uncertain, Terminating, RecordingCommit, RecordingAbort, DoneCommit, DoneAbort, Down, Coordinator, Outcome, Report}

-- One byte a step: 0 idle (not due), 1 moved, 2 commit, 3 abort
abbrev pub outcome_number : Outcome → ℕ
outcome_number Outcome.Idle = 0
outcome_number Outcome.Moved = 1
outcome_number Outcome.Commit = 2
outcome_number Outcome.Abort = 3

abbrev pub outcome_of : ℕ → Outcome
outcome_of k = numbered outcome_number Outcome.Idle (Outcome.Moved ∷ Outcome.Commit ∷ Outcome.Abort ∷ []) k

-- a step is due where it is not idle
abbrev pub moves : Outcome → Bool
moves Outcome.Idle = false
moves Outcome.Moved = true
moves Outcome.Commit = true
moves Outcome.Abort = true

-- a participant knows its decision in 5 to 8
abbrev pub known : Participant → Outcome
known Waiting = Outcome.Moved
known VotingYes = Outcome.Moved
known Closing = Outcome.Moved
known Uncertain = Outcome.Moved
known (Terminating h) = Outcome.Moved
known RecordingCommit = Outcome.Commit
known RecordingAbort = Outcome.Abort
known DoneCommit = Outcome.Commit
known DoneAbort = Outcome.Abort
known Down = Outcome.Moved

-- the coordinator in 3 and 4
abbrev pub coordinator_known : Coordinator → Outcome
coordinator_known Coordinator.Idle = Outcome.Moved
coordinator_known (Coordinator.Waiting h) = Outcome.Moved
coordinator_known (Coordinator.Terminating h) = Outcome.Moved
coordinator_known Coordinator.Commit = Outcome.Commit
coordinator_known Coordinator.Abort = Outcome.Abort
coordinator_known Coordinator.Down = Outcome.Moved
coordinator_known Coordinator.Retired = Outcome.Moved

-- a due step of a party that knew the first and knows the second: what it knew already is not reported again
abbrev pub learnt : Outcome → Outcome → Outcome
learnt Outcome.Idle new = new
learnt Outcome.Moved new = new
learnt Outcome.Commit new = Outcome.Moved
learnt Outcome.Abort new = Outcome.Moved

-- Request 2026-01: a step of kind 06 or 07 in which a party writes the first record, an abort, into a log not its own adds 4 to its report byte

-- party p, by a call on the log at place j that left x. The coordinator has no log, so every log is not its own
abbrev pub closes : ℕ → ℕ → Logged → Bool
closes p j x = wrote_abort x && not (eqb p (suc j))

abbrev pub with_closed : Bool → Report → Report
with_closed closed t = record { outcome = t.outcome; closed = closed; next = t.next }

abbrev pub closed_adds : ℕ
closed_adds = 4

abbrev pub report_byte : Outcome → Bool → ℕ
report_byte o closed = outcome_number o + cond closed closed_adds 0

abbrev pub step_byte : Report → ℕ
step_byte t = report_byte t.outcome t.closed

-- what a byte says: the outcome, and so the decision, by its remainder modulo 4; and whether another's log was closed

abbrev pub outcome_in : ℕ → Outcome
outcome_in b = outcome_of (b % closed_adds)

abbrev pub closed_in : ℕ → Bool
closed_in b = leb closed_adds b
