-- The rules of a participant, in document 01's order. `all` is the mask of all participants, `own` the participant's place (its number less one),
-- `j` the place of a log, `h` a heard mask. Assumes nothing.
use Rattle.std.specs.Prelude.{Bool, true, cond, not, ◌&&◌, ◌||◌, [], ◌∷◌, ℕ, eqb, leb, Option}
use Rattle.number.specs.Numbering.{numbered, are_numbers}
use Rattle.mask.specs.Mask.{has, insert}
use Rattle.message.specs.Message.{Transition, not_due, to, sends}
use Rattle.participant.specs.Types.{LogRecord, None, Yes, Abort, Commit, Call, Message, Decision, Participant, Waiting, VotingYes, Closing, Uncertain, Terminating, RecordingCommit, RecordingAbort, DoneCommit, DoneAbort, Down}

-- States
abbrev pub state_number : Participant → ℕ
state_number Waiting = 0
state_number VotingYes = 1
state_number Closing = 2
state_number Uncertain = 3
state_number (Terminating h) = 4
state_number RecordingCommit = 5
state_number RecordingAbort = 6
state_number DoneCommit = 7
state_number DoneAbort = 8
state_number Down = 9

-- In 4 it has a heard mask; outside 4 that is 0
abbrev pub heard_of : Participant → ℕ
heard_of Waiting = 0
heard_of VotingYes = 0
heard_of Closing = 0
heard_of Uncertain = 0
heard_of (Terminating h) = h
heard_of RecordingCommit = 0
heard_of RecordingAbort = 0
heard_of DoneCommit = 0
heard_of DoneAbort = 0
heard_of Down = 0

-- back from the numbers of state and heard mask
abbrev pub of_numbers : ℕ → ℕ → Participant
of_numbers s h =
    numbered state_number Waiting
    (VotingYes ∷ Closing ∷ Uncertain ∷ Terminating h ∷ RecordingCommit ∷ RecordingAbort ∷ DoneCommit ∷ DoneAbort ∷ Down ∷ []) s

abbrev pub is_participant : ℕ → ℕ → Bool
is_participant s h = are_numbers state_number heard_of of_numbers s h

-- a heard mask that goes beyond n, has the own bit or is full is out of range
abbrev pub heard_in_range : ℕ → ℕ → ℕ → Bool
heard_in_range all own h = leb h all && (not (has own h) && not (eqb (insert own h) all))

abbrev pub in_range : ℕ → ℕ → Participant → Bool
in_range all own Waiting = true
in_range all own VotingYes = true
in_range all own Closing = true
in_range all own Uncertain = true
in_range all own (Terminating h) = heard_in_range all own h
in_range all own RecordingCommit = true
in_range all own RecordingAbort = true
in_range all own DoneCommit = true
in_range all own DoneAbort = true
in_range all own Down = true

abbrev pub numbers_in_range : ℕ → ℕ → ℕ → ℕ → Bool
numbers_in_range all own s h = is_participant s h && in_range all own (of_numbers s h)

-- Vote request in 0: to 1 if its vote is yes, else to 2. Any other delivery has no effect
abbrev pub on_request : Bool → Participant → Participant
on_request vote Waiting = cond vote VotingYes Closing
on_request vote VotingYes = VotingYes
on_request vote Closing = Closing
on_request vote Uncertain = Uncertain
on_request vote (Terminating h) = Terminating h
on_request vote RecordingCommit = RecordingCommit
on_request vote RecordingAbort = RecordingAbort
on_request vote DoneCommit = DoneCommit
on_request vote DoneAbort = DoneAbort
on_request vote Down = Down

-- Decision in 3, and by request 2026-02 in 4: to 5 or 6. Any other delivery has no effect
abbrev pub recording : Decision → Participant
recording Decision.Commit = RecordingCommit
recording Decision.Abort = RecordingAbort

abbrev pub on_decision : Decision → Participant → Participant
on_decision d Waiting = Waiting
on_decision d VotingYes = VotingYes
on_decision d Closing = Closing
on_decision d Uncertain = recording d
on_decision d (Terminating h) = recording d
on_decision d RecordingCommit = RecordingCommit
on_decision d RecordingAbort = RecordingAbort
on_decision d DoneCommit = DoneCommit
on_decision d DoneAbort = DoneAbort
on_decision d Down = Down

-- Own call in 1 is LogOnce(yes), in 2 LogOnce(abort), in 5 or 6 Log of that decision. Call on another, unheard log in 4 is LogOnce(abort)
abbrev pub own_call : ℕ → ℕ → Call → Option Call
own_call own j c = cond (eqb j own) (Option.Some c) Option.None

abbrev pub other_call : ℕ → ℕ → ℕ → Option Call
other_call own h j = cond (eqb j own || has j h) Option.None (Option.Some (Call.LogOnce Abort))

abbrev pub pending : ℕ → Participant → ℕ → Option Call
pending own Waiting j = Option.None
pending own VotingYes j = own_call own j (Call.LogOnce Yes)
pending own Closing j = own_call own j (Call.LogOnce Abort)
pending own Uncertain j = Option.None
pending own (Terminating h) j = other_call own h j
pending own RecordingCommit j = own_call own j (Call.Log Commit)
pending own RecordingAbort j = own_call own j (Call.Log Abort)
pending own DoneCommit j = Option.None
pending own DoneAbort j = Option.None
pending own Down j = Option.None

-- When nothing is left to hear in 4, it goes to 5 in the same step. With n = 1 that is on entering 4
abbrev pub terminating : ℕ → ℕ → ℕ → Participant
terminating all own h = cond (eqb (insert own h) all) RecordingCommit (Terminating h)

-- In 1. Answer yes: send reply yes, to 3. Answer abort: send reply abort, to 8
abbrev pub on_vote : LogRecord → Transition Participant
on_vote None = not_due
on_vote Yes = sends Message.ReplyYes Uncertain
on_vote Abort = sends Message.ReplyAbort DoneAbort
on_vote Commit = not_due

-- In 2. Answer abort: send reply abort, to 8. Yes: to 4, nothing heard. Commit: to 7
abbrev pub on_close : ℕ → ℕ → LogRecord → Transition Participant
on_close all own None = not_due
on_close all own Yes = to (terminating all own 0)
on_close all own Abort = sends Message.ReplyAbort DoneAbort
on_close all own Commit = to DoneCommit

-- In 4. Abort: to 6. Commit: to 5. Yes: heard
abbrev pub on_heard : ℕ → ℕ → ℕ → LogRecord → Transition Participant
on_heard all own h None = not_due
on_heard all own h Yes = to (terminating all own h)
on_heard all own h Abort = to RecordingAbort
on_heard all own h Commit = to RecordingCommit

-- In 5 or 6 the answer leads to 7 or 8
abbrev pub on_commit_recorded : LogRecord → Transition Participant
on_commit_recorded None = not_due
on_commit_recorded Yes = not_due
on_commit_recorded Abort = not_due
on_commit_recorded Commit = to DoneCommit

abbrev pub on_abort_recorded : LogRecord → Transition Participant
on_abort_recorded None = not_due
on_abort_recorded Yes = not_due
on_abort_recorded Abort = to DoneAbort
on_abort_recorded Commit = not_due

-- the answer r of log j to the call pending there
abbrev pub on_answer : ℕ → ℕ → Participant → ℕ → LogRecord → Transition Participant
on_answer all own Waiting j r = not_due
on_answer all own VotingYes j r = on_vote r
on_answer all own Closing j r = on_close all own r
on_answer all own Uncertain j r = not_due
on_answer all own (Terminating h) j r = on_heard all own (insert j h) r
on_answer all own RecordingCommit j r = on_commit_recorded r
on_answer all own RecordingAbort j r = on_abort_recorded r
on_answer all own DoneCommit j r = not_due
on_answer all own DoneAbort j r = not_due
on_answer all own Down j r = not_due

-- Timeout: 0 to 2; 3 to 4; in 4 the heard mask is cleared
abbrev pub on_timeout : ℕ → ℕ → Participant → Transition Participant
on_timeout all own Waiting = to Closing
on_timeout all own VotingYes = not_due
on_timeout all own Closing = not_due
on_timeout all own Uncertain = to (terminating all own 0)
on_timeout all own (Terminating h) = to (Terminating 0)
on_timeout all own RecordingCommit = not_due
on_timeout all own RecordingAbort = not_due
on_timeout all own DoneCommit = not_due
on_timeout all own DoneAbort = not_due
on_timeout all own Down = not_due

-- Crash: to 9, memory lost
abbrev pub on_crash : Participant → Transition Participant
on_crash Waiting = to Down
on_crash VotingYes = to Down
on_crash Closing = to Down
on_crash Uncertain = to Down
on_crash (Terminating h) = to Down
on_crash RecordingCommit = to Down
on_crash RecordingAbort = to Down
on_crash DoneCommit = to Down
on_crash DoneAbort = to Down
on_crash Down = not_due

-- Restart: to 2
abbrev pub on_restart : Participant → Transition Participant
on_restart Waiting = not_due
on_restart VotingYes = not_due
on_restart Closing = not_due
on_restart Uncertain = not_due
on_restart (Terminating h) = not_due
on_restart RecordingCommit = not_due
on_restart RecordingAbort = not_due
on_restart DoneCommit = not_due
on_restart DoneAbort = not_due
on_restart Down = to Closing
