-- The rules of the coordinator, in document 01's order. `all` is the mask of all participants, `i` the place of the participant that replies,
-- `j` the place of a log, `h` a heard mask. What the coordinator sends goes to all participants. Assumes nothing.
use Rattle.std.specs.Prelude.{Bool, true, cond, not, ◌&&◌, [], ◌∷◌, ℕ, eqb, leb, Option}
use Rattle.number.specs.Numbering.{numbered, are_numbers}
use Rattle.mask.specs.Mask.{has, insert}
use Rattle.message.specs.Message.{Transition, not_due, to, sends}
use Rattle.coordinator.specs.Types.{LogRecord, Call, Message, Coordinator}
use Rattle.coordinator.specs.declared.Coordinator.TheVariants.{Idle, Waiting, Terminating, Commit, Abort, Down, Retired}

-- States
abbrev pub state_number : Coordinator → ℕ
state_number Idle = 0
state_number (Waiting h) = 1
state_number (Terminating h) = 2
state_number Commit = 3
state_number Abort = 4
state_number Down = 5
state_number Retired = 6

-- Heard masks are 0 outside states 1 and 2
abbrev pub heard_of : Coordinator → ℕ
heard_of Idle = 0
heard_of (Waiting h) = h
heard_of (Terminating h) = h
heard_of Commit = 0
heard_of Abort = 0
heard_of Down = 0
heard_of Retired = 0

-- back from the numbers of state and heard mask
abbrev pub of_numbers : ℕ → ℕ → Coordinator
of_numbers s h = numbered state_number Idle (Waiting h ∷ Terminating h ∷ Commit ∷ Abort ∷ Down ∷ Retired ∷ []) s

abbrev pub is_coordinator : ℕ → ℕ → Bool
is_coordinator s h = are_numbers state_number heard_of of_numbers s h

-- and never full there
abbrev pub heard_in_range : ℕ → ℕ → Bool
heard_in_range all h = leb h all && not (eqb h all)

abbrev pub in_range : ℕ → Coordinator → Bool
in_range all Idle = true
in_range all (Waiting h) = heard_in_range all h
in_range all (Terminating h) = heard_in_range all h
in_range all Commit = true
in_range all Abort = true
in_range all Down = true
in_range all Retired = true

abbrev pub numbers_in_range : ℕ → ℕ → ℕ → Bool
numbers_in_range all s h = is_coordinator s h && in_range all (of_numbers s h)

-- Entering 3 or 4 sends that decision to all
abbrev pub enters : Coordinator → Transition Coordinator
enters Idle = to Idle
enters (Waiting h) = to (Waiting h)
enters (Terminating h) = to (Terminating h)
enters Commit = sends Message.Commit Commit
enters Abort = sends Message.Abort Abort
enters Down = to Down
enters Retired = to Retired

-- Start in 0 sends all requests, to 1
abbrev pub on_start : Coordinator → Transition Coordinator
on_start Idle = sends Message.Request (Waiting 0)
on_start (Waiting h) = not_due
on_start (Terminating h) = not_due
on_start Commit = not_due
on_start Abort = not_due
on_start Down = not_due
on_start Retired = not_due

-- all heard gives 3
abbrev pub unless_full : ℕ → ℕ → Coordinator → Coordinator
unless_full all h c = cond (eqb h all) Commit c

-- In 1, a yes reply is heard. Replies in other states have no effect
abbrev pub on_reply_yes : ℕ → ℕ → Coordinator → Transition Coordinator
on_reply_yes all i Idle = to Idle
on_reply_yes all i (Waiting h) = enters (unless_full all (insert i h) (Waiting (insert i h)))
on_reply_yes all i (Terminating h) = to (Terminating h)
on_reply_yes all i Commit = to Commit
on_reply_yes all i Abort = to Abort
on_reply_yes all i Down = to Down
on_reply_yes all i Retired = to Retired

-- In 1, an abort reply gives 4. Replies in other states have no effect
abbrev pub on_reply_abort : Coordinator → Transition Coordinator
on_reply_abort Idle = to Idle
on_reply_abort (Waiting h) = enters Abort
on_reply_abort (Terminating h) = to (Terminating h)
on_reply_abort Commit = to Commit
on_reply_abort Abort = to Abort
on_reply_abort Down = to Down
on_reply_abort Retired = to Retired

-- Timeout in 1 leads to 2, nothing heard; in 2 it clears the mask
abbrev pub on_timeout : Coordinator → Transition Coordinator
on_timeout Idle = not_due
on_timeout (Waiting h) = to (Terminating 0)
on_timeout (Terminating h) = to (Terminating 0)
on_timeout Commit = not_due
on_timeout Abort = not_due
on_timeout Down = not_due
on_timeout Retired = not_due

-- Its calls in 2 go by the participant's rules for 4, over all n logs, ending in 3 or 4
abbrev pub pending : Coordinator → ℕ → Option Call
pending Idle j = Option.None
pending (Waiting h) j = Option.None
pending (Terminating h) j = cond (has j h) Option.None (Option.Some (Call.LogOnce LogRecord.Abort))
pending Commit j = Option.None
pending Abort j = Option.None
pending Down j = Option.None
pending Retired j = Option.None

abbrev pub on_heard : ℕ → ℕ → LogRecord → Transition Coordinator
on_heard all h LogRecord.None = not_due
on_heard all h LogRecord.Yes = enters (unless_full all h (Terminating h))
on_heard all h LogRecord.Abort = enters Abort
on_heard all h LogRecord.Commit = enters Commit

-- the answer r of log j to the call pending there
abbrev pub on_answer : ℕ → Coordinator → ℕ → LogRecord → Transition Coordinator
on_answer all Idle j r = not_due
on_answer all (Waiting h) j r = not_due
on_answer all (Terminating h) j r = on_heard all (insert j h) r
on_answer all Commit j r = not_due
on_answer all Abort j r = not_due
on_answer all Down j r = not_due
on_answer all Retired j r = not_due

-- Crash leads to 5, restart from there to 6
abbrev pub on_crash : Coordinator → Transition Coordinator
on_crash Idle = to Down
on_crash (Waiting h) = to Down
on_crash (Terminating h) = to Down
on_crash Commit = to Down
on_crash Abort = to Down
on_crash Down = not_due
on_crash Retired = to Down

abbrev pub on_restart : Coordinator → Transition Coordinator
on_restart Idle = not_due
on_restart (Waiting h) = not_due
on_restart (Terminating h) = not_due
on_restart Commit = not_due
on_restart Abort = not_due
on_restart Down = to Retired
on_restart Retired = not_due
