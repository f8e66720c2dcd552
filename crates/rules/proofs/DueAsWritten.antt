-- A step is due by the rules just where document 01 lists it as due. Assumes nothing.
use mathlib.Core.Path.{◌≡◌, refl, ◌∙◌}
use mathlib.Core.Bool.{Bool, true, false, not, cond}
use mathlib.Core.List.{[], ◌∷◌}
use Prim.Native.Nat.{ℕ, zero, suc}
use Rattle.std.specs.Prelude.{Option}
use Rattle.mask.specs.Mask.{insert, full}
use Rattle.store.specs.Log.{perform}
use Rattle.participant.specs.Participant
use Rattle.coordinator.specs.Coordinator
use Rattle.rules.specs.State.{participant_of, log_of, in_flight}
use Rattle.rules.specs.Report.{moves}
use Rattle.rules.specs.Step.{called, take_out, idle, moved, receive, participant_answered, participant_performed, participant_calls, coordinator_answered, coordinator_performed, coordinator_calls, calls}
use Rattle.rules.specs.Due.{in_states, can_get, answerable, call_due, DueAsWritten}
use Rattle.rules.specs.Types.{LogRecord, None, Yes, Abort, Commit, LogPair, Logged, Participant, Waiting, VotingYes, Closing, Uncertain, Terminating, RecordingCommit, RecordingAbort, DoneCommit, DoneAbort, Down, Transition, Coordinator, Release, Step, Start, Deliver, Copy, Lose, Timeout, Crash, Restart, Report}
use Rattle.rules.proofs.Due.{participant_due, coordinator_due, leads, coordinator_leads, goes_moves, coordinator_goes_moves, enters_leads}
use Rattle.rules.proofs.Actions.{receive_moves}

-- start, timeout, crash, restart

start_leads : (c : Coordinator) → coordinator_leads (Coordinator.on_start c) ≡ in_states Coordinator.state_number (Coordinator.Idle ∷ []) c
start_leads Coordinator.Idle = refl
start_leads (Coordinator.Waiting h) = refl
start_leads (Coordinator.Terminating h) = refl
start_leads Coordinator.Commit = refl
start_leads Coordinator.Abort = refl
start_leads Coordinator.Down = refl
start_leads Coordinator.Retired = refl

coordinator_timeout_leads : (c : Coordinator) → coordinator_leads (Coordinator.on_timeout c) ≡ in_states Coordinator.state_number (Coordinator.Waiting 0 ∷ Coordinator.Terminating 0 ∷ []) c
coordinator_timeout_leads Coordinator.Idle = refl
coordinator_timeout_leads (Coordinator.Waiting h) = refl
coordinator_timeout_leads (Coordinator.Terminating h) = refl
coordinator_timeout_leads Coordinator.Commit = refl
coordinator_timeout_leads Coordinator.Abort = refl
coordinator_timeout_leads Coordinator.Down = refl
coordinator_timeout_leads Coordinator.Retired = refl

coordinator_crash_leads : (c : Coordinator) → coordinator_leads (Coordinator.on_crash c) ≡ not (in_states Coordinator.state_number (Coordinator.Down ∷ []) c)
coordinator_crash_leads Coordinator.Idle = refl
coordinator_crash_leads (Coordinator.Waiting h) = refl
coordinator_crash_leads (Coordinator.Terminating h) = refl
coordinator_crash_leads Coordinator.Commit = refl
coordinator_crash_leads Coordinator.Abort = refl
coordinator_crash_leads Coordinator.Down = refl
coordinator_crash_leads Coordinator.Retired = refl

coordinator_restart_leads : (c : Coordinator) → coordinator_leads (Coordinator.on_restart c) ≡ in_states Coordinator.state_number (Coordinator.Down ∷ []) c
coordinator_restart_leads Coordinator.Idle = refl
coordinator_restart_leads (Coordinator.Waiting h) = refl
coordinator_restart_leads (Coordinator.Terminating h) = refl
coordinator_restart_leads Coordinator.Commit = refl
coordinator_restart_leads Coordinator.Abort = refl
coordinator_restart_leads Coordinator.Down = refl
coordinator_restart_leads Coordinator.Retired = refl

timeout_leads : (all i : ℕ) (p : Participant) → leads (Participant.on_timeout all i p) ≡ in_states Participant.state_number (Waiting ∷ Uncertain ∷ Terminating 0 ∷ []) p
timeout_leads all i Waiting = refl
timeout_leads all i VotingYes = refl
timeout_leads all i Closing = refl
timeout_leads all i Uncertain = refl
timeout_leads all i (Terminating h) = refl
timeout_leads all i RecordingCommit = refl
timeout_leads all i RecordingAbort = refl
timeout_leads all i DoneCommit = refl
timeout_leads all i DoneAbort = refl
timeout_leads all i Down = refl

crash_leads : (p : Participant) → leads (Participant.on_crash p) ≡ not (in_states Participant.state_number (Down ∷ []) p)
crash_leads Waiting = refl
crash_leads VotingYes = refl
crash_leads Closing = refl
crash_leads Uncertain = refl
crash_leads (Terminating h) = refl
crash_leads RecordingCommit = refl
crash_leads RecordingAbort = refl
crash_leads DoneCommit = refl
crash_leads DoneAbort = refl
crash_leads Down = refl

restart_leads : (p : Participant) → leads (Participant.on_restart p) ≡ in_states Participant.state_number (Down ∷ []) p
restart_leads Waiting = refl
restart_leads VotingYes = refl
restart_leads Closing = refl
restart_leads Uncertain = refl
restart_leads (Terminating h) = refl
restart_leads RecordingCommit = refl
restart_leads RecordingAbort = refl
restart_leads DoneCommit = refl
restart_leads DoneAbort = refl
restart_leads Down = refl

-- messages

flight_moves : (b : Bool) (t : Report) (r : Release) → moves t.outcome ≡ true → moves (cond b t (idle r)).outcome ≡ b
flight_moves true t r h = h
flight_moves false t r h = refl

-- calls

-- the answers that each state with a call pending can get
abbrev Asks : Participant → Type 0
Asks Waiting = ⊥
Asks VotingYes = Unit {0}
Asks Closing = Unit {0}
Asks Uncertain = ⊥
Asks (Terminating h) = Unit {0}
Asks RecordingCommit = Unit {0}
Asks RecordingAbort = Unit {0}
Asks DoneCommit = ⊥
Asks DoneAbort = ⊥
Asks Down = ⊥

answer_leads : (all i j : ℕ) (p : Participant) (a : LogRecord) → Asks p → leads (Participant.on_answer all i p j a) ≡ can_get p a
answer_leads all i j Waiting a h = absurd h
answer_leads all i j VotingYes None h = refl
answer_leads all i j VotingYes Yes h = refl
answer_leads all i j VotingYes Abort h = refl
answer_leads all i j VotingYes Commit h = refl
answer_leads all i j Closing None h = refl
answer_leads all i j Closing Yes h = refl
answer_leads all i j Closing Abort h = refl
answer_leads all i j Closing Commit h = refl
answer_leads all i j Uncertain a h = absurd h
answer_leads all i j (Terminating m) None h = refl
answer_leads all i j (Terminating m) Yes h = refl
answer_leads all i j (Terminating m) Abort h = refl
answer_leads all i j (Terminating m) Commit h = refl
answer_leads all i j RecordingCommit None h = refl
answer_leads all i j RecordingCommit Yes h = refl
answer_leads all i j RecordingCommit Abort h = refl
answer_leads all i j RecordingCommit Commit h = refl
answer_leads all i j RecordingAbort None h = refl
answer_leads all i j RecordingAbort Yes h = refl
answer_leads all i j RecordingAbort Abort h = refl
answer_leads all i j RecordingAbort Commit h = refl
answer_leads all i j DoneCommit a h = absurd h
answer_leads all i j DoneAbort a h = absurd h
answer_leads all i j Down a h = absurd h

-- a state with no call pending performs nothing
abbrev CallOf : Participant → Option Logged → Type 0
CallOf p Option.None = Unit {0}
CallOf p (Option.Some x) = Asks p

asks_any : (p : Participant) (s : Option Logged) → Asks p → CallOf p s
asks_any p Option.None a = tt
asks_any p (Option.Some x) a = a

pending_asks : (i : ℕ) (p : Participant) (j : ℕ) (l : LogPair) → CallOf p (perform (Participant.pending i p j) l)
pending_asks i Waiting j l = tt
pending_asks i VotingYes j l = asks_any VotingYes (perform (Participant.pending i VotingYes j) l) tt
pending_asks i Closing j l = asks_any Closing (perform (Participant.pending i Closing j) l) tt
pending_asks i Uncertain j l = tt
pending_asks i (Terminating h) j l = asks_any (Terminating h) (perform (Participant.pending i (Terminating h) j) l) tt
pending_asks i RecordingCommit j l = asks_any RecordingCommit (perform (Participant.pending i RecordingCommit j) l) tt
pending_asks i RecordingAbort j l = asks_any RecordingAbort (perform (Participant.pending i RecordingAbort j) l) tt
pending_asks i DoneCommit j l = tt
pending_asks i DoneAbort j l = tt
pending_asks i Down j l = tt

answered_moves : (heard : Bool) (i j : ℕ) (x : Logged) (t : Transition Participant) (r : Release) → moves (participant_answered heard i j x t r).outcome ≡ leads t
answered_moves heard i j x Option.None r = refl
answered_moves true i j x (Option.Some (p, s)) r = participant_due i p s (called (suc i) j x.log r)
answered_moves false i j x (Option.Some (p, s)) r = refl

performed_moves : (heard : Bool) (i j : ℕ) (s : Option Logged) (r : Release) → CallOf (participant_of r i) s
    → moves (participant_performed heard i j s r).outcome ≡ answerable (participant_of r i) s
performed_moves heard i j Option.None r c = refl
performed_moves heard i j (Option.Some x) r c =
    answered_moves heard i j x (Participant.on_answer (full r.n) i (participant_of r i) j x.answer) r ∙ answer_leads (full r.n) i j (participant_of r i) x.answer c

-- the coordinator hears as a participant does in 4

heard_leads : (all h : ℕ) (a : LogRecord) → coordinator_leads (Coordinator.on_heard all h a) ≡ can_get (Terminating 0) a
heard_leads all h None = refl
heard_leads all h Yes = enters_leads (Coordinator.unless_full all h (Coordinator.Terminating h))
heard_leads all h Abort = refl
heard_leads all h Commit = refl

coordinator_answered_moves : (heard : Bool) (j : ℕ) (x : Logged) (t : Transition Coordinator) (r : Release)
    → moves (coordinator_answered heard j x t r).outcome ≡ coordinator_leads t
coordinator_answered_moves heard j x Option.None r = refl
coordinator_answered_moves true j x (Option.Some (c, s)) r = coordinator_due c s (called 0 j x.log r)
coordinator_answered_moves false j x (Option.Some (c, s)) r = refl

abbrev CoordinatorCallOf : Coordinator → Option Logged → Type 0
CoordinatorCallOf c Option.None = Unit {0}
CoordinatorCallOf c (Option.Some x) = (all j : ℕ) → coordinator_leads (Coordinator.on_answer all c j x.answer) ≡ can_get (Terminating 0) x.answer

terminating_asks : (h : ℕ) (s : Option Logged) → CoordinatorCallOf (Coordinator.Terminating h) s
terminating_asks h Option.None = tt
terminating_asks h (Option.Some x) = λ all j. heard_leads all (insert j h) x.answer

coordinator_pending_asks : (c : Coordinator) (j : ℕ) (l : LogPair) → CoordinatorCallOf c (perform (Coordinator.pending c j) l)
coordinator_pending_asks Coordinator.Idle j l = tt
coordinator_pending_asks (Coordinator.Waiting h) j l = tt
coordinator_pending_asks (Coordinator.Terminating h) j l = terminating_asks h (perform (Coordinator.pending (Coordinator.Terminating h) j) l)
coordinator_pending_asks Coordinator.Commit j l = tt
coordinator_pending_asks Coordinator.Abort j l = tt
coordinator_pending_asks Coordinator.Down j l = tt
coordinator_pending_asks Coordinator.Retired j l = tt

coordinator_performed_moves : (heard : Bool) (j : ℕ) (s : Option Logged) (r : Release) → CoordinatorCallOf r.coordinator s
    → moves (coordinator_performed heard j s r).outcome ≡ answerable (Terminating 0) s
coordinator_performed_moves heard j Option.None r c = refl
coordinator_performed_moves heard j (Option.Some x) r c =
    coordinator_answered_moves heard j x (Coordinator.on_answer (full r.n) r.coordinator j x.answer) r ∙ c (full r.n) j

call_moves : (heard : Bool) (p q : ℕ) (r : Release) → moves (calls heard p q r).outcome ≡ call_due r p q
unfolding participant_calls coordinator_calls
call_moves heard zero zero r = refl
call_moves heard zero (suc j) r =
    coordinator_performed_moves heard j (perform (Coordinator.pending r.coordinator j) (log_of r j)) r (coordinator_pending_asks r.coordinator j (log_of r j))
call_moves heard (suc i) zero r = refl
call_moves heard (suc i) (suc j) r =
    performed_moves heard i j (perform (Participant.pending i (participant_of r i) j) (log_of r j)) r (pending_asks i (participant_of r i) j (log_of r j))

pub due_as_written : DueAsWritten
due_as_written r Start = coordinator_goes_moves (Coordinator.on_start r.coordinator) r ∙ start_leads r.coordinator
due_as_written r (Deliver m zero) = refl
due_as_written r (Deliver m (suc i)) = flight_moves (in_flight r m i) (receive m i (take_out m i r)) r (receive_moves m i (take_out m i r))
due_as_written r (Copy m zero) = refl
due_as_written r (Copy m (suc i)) = flight_moves (in_flight r m i) (receive m i r) r (receive_moves m i r)
due_as_written r (Lose m zero) = refl
due_as_written r (Lose m (suc i)) = flight_moves (in_flight r m i) (moved (take_out m i r)) r refl
due_as_written r (Step.Call p q) = call_moves true p q r
due_as_written r (Step.CallLost p q) = call_moves false p q r
due_as_written r (Timeout zero) = coordinator_goes_moves (Coordinator.on_timeout r.coordinator) r ∙ coordinator_timeout_leads r.coordinator
due_as_written r (Timeout (suc i)) = goes_moves i (Participant.on_timeout (full r.n) i (participant_of r i)) r ∙ timeout_leads (full r.n) i (participant_of r i)
due_as_written r (Crash zero) = coordinator_goes_moves (Coordinator.on_crash r.coordinator) r ∙ coordinator_crash_leads r.coordinator
due_as_written r (Crash (suc i)) = goes_moves i (Participant.on_crash (participant_of r i)) r ∙ crash_leads (participant_of r i)
due_as_written r (Restart zero) = coordinator_goes_moves (Coordinator.on_restart r.coordinator) r ∙ coordinator_restart_leads r.coordinator
due_as_written r (Restart (suc i)) = goes_moves i (Participant.on_restart (participant_of r i)) r ∙ restart_leads (participant_of r i)
