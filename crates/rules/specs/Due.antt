-- When a step is due, in document 01's own list of states. The rules give the same answer: proved in proofs/DueAsWritten.antt.
-- Assumes nothing.
use Rattle.std.specs.Prelude.{◌≡◌, Bool, false, not, ◌||◌, List, [], ◌∷◌, ℕ, zero, suc, eqb, Option}
use Rattle.store.specs.Log.{perform}
use Rattle.participant.specs.Participant
use Rattle.coordinator.specs.Coordinator
use Rattle.rules.specs.State.{participant_of, log_of, in_flight}
use Rattle.rules.specs.Step.{is_due}
use Rattle.rules.specs.Types.{LogRecord, None, Yes, Abort, Commit, Logged, Message, Participant, Waiting, VotingYes, Uncertain, Terminating, RecordingCommit, RecordingAbort, Down, Coordinator, Release, Step, Start, Deliver, Copy, Lose, Timeout, Crash, Restart}

-- in one of these states. A heard mask makes no difference
abbrev pub in_states : {A : Type 0} → (A → ℕ) → List A → A → Bool
in_states number [] x = false
in_states number (y ∷ ys) x = eqb (number x) (number y) || in_states number ys x

-- An answer the state can't get: commit in 1; yes, or the other decision, in 5 or 6. No log answers none
abbrev pub can_get : Participant → LogRecord → Bool
can_get p None = false
can_get p Yes = not (in_states Participant.state_number (RecordingCommit ∷ RecordingAbort ∷ []) p)
can_get p Abort = not (in_states Participant.state_number (RecordingCommit ∷ []) p)
can_get p Commit = not (in_states Participant.state_number (VotingYes ∷ RecordingAbort ∷ []) p)

-- 06 and 07 when that party has that call pending, its Log would not be refused, and the answer is one its state can get
abbrev pub answerable : Participant → Option Logged → Bool
answerable p Option.None = false
answerable p (Option.Some x) = can_get p x.answer

abbrev pub call_due : Release → ℕ → ℕ → Bool
call_due r zero zero = false
call_due r zero (suc j) = answerable (Terminating 0) (perform (Coordinator.pending r.coordinator j) (log_of r j))
call_due r (suc i) zero = false
call_due r (suc i) (suc j) = answerable (participant_of r i) (perform (Participant.pending i (participant_of r i) j) (log_of r j))

-- 03 to 05 when the message is in flight
abbrev pub message_due : Release → Message → ℕ → Bool
message_due r m zero = false
message_due r m (suc i) = in_flight r m i

-- crash when not down; restart when down; timeout in participant states 0, 3, 4 and coordinator states 1, 2. Start in 0
abbrev pub due : Release → Step → Bool
due r Start = in_states Coordinator.state_number (Coordinator.Idle ∷ []) r.coordinator
due r (Deliver m p) = message_due r m p
due r (Copy m p) = message_due r m p
due r (Lose m p) = message_due r m p
due r (Step.Call p q) = call_due r p q
due r (Step.CallLost p q) = call_due r p q
due r (Timeout zero) = in_states Coordinator.state_number (Coordinator.Waiting 0 ∷ Coordinator.Terminating 0 ∷ []) r.coordinator
due r (Timeout (suc i)) = in_states Participant.state_number (Waiting ∷ Uncertain ∷ Terminating 0 ∷ []) (participant_of r i)
due r (Crash zero) = not (in_states Coordinator.state_number (Coordinator.Down ∷ []) r.coordinator)
due r (Crash (suc i)) = not (in_states Participant.state_number (Down ∷ []) (participant_of r i))
due r (Restart zero) = in_states Coordinator.state_number (Coordinator.Down ∷ []) r.coordinator
due r (Restart (suc i)) = in_states Participant.state_number (Down ∷ []) (participant_of r i)

abbrev pub DueAsWritten : Type 0
DueAsWritten = (r : Release) (s : Step) → is_due r s ≡ due r s
