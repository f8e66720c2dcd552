-- What each rule of a party can do, once and for all: a property of the cases is a property of the rule. Assumes nothing.
use mathlib.Core.Path.{◌≡◌, refl}
use mathlib.Core.Bool.{Bool, true, false, cond}
use Prim.Native.Nat.{ℕ}
use Rattle.std.specs.Prelude.{Option}
use Rattle.mask.specs.Mask.{insert}
use Rattle.message.specs.Message.{to, sends}
use Rattle.participant.specs.Participant
use Rattle.coordinator.specs.Coordinator
use Rattle.rules.specs.Types.{LogRecord, None, Yes, Abort, Commit, Message, Decision, Participant, Waiting, VotingYes, Closing, Uncertain, Terminating, RecordingCommit, RecordingAbort, DoneCommit, DoneAbort, Down, Transition, Coordinator}

-- a test, and what it picks
pub cond_cases {ℓ} : {A : Type ℓ} (P : A → Type 0) (b : Bool) (x y : A) → (b ≡ true → P x) → (b ≡ false → P y) → P (cond b x y)
cond_cases P true x y p q = p refl
cond_cases P false x y p q = q refl

-- a request moves a waiting participant
pub request_cases : (P : Participant → Participant → Type 0) (vote : Bool) → P Waiting (cond vote VotingYes Closing) → ((p : Participant) → P p p)
    → (p : Participant) → P p (Participant.on_request vote p)
request_cases P vote a b Waiting = a
request_cases P vote a b VotingYes = b VotingYes
request_cases P vote a b Closing = b Closing
request_cases P vote a b Uncertain = b Uncertain
request_cases P vote a b (Terminating h) = b (Terminating h)
request_cases P vote a b RecordingCommit = b RecordingCommit
request_cases P vote a b RecordingAbort = b RecordingAbort
request_cases P vote a b DoneCommit = b DoneCommit
request_cases P vote a b DoneAbort = b DoneAbort
request_cases P vote a b Down = b Down

-- a decision moves an uncertain one, and one that terminates
pub decision_cases : (P : Participant → Participant → Type 0) (d : Decision) → P Uncertain (Participant.recording d)
    → ((h : ℕ) → P (Terminating h) (Participant.recording d)) → ((p : Participant) → P p p) → (p : Participant) → P p (Participant.on_decision d p)
decision_cases P d a b c Waiting = c Waiting
decision_cases P d a b c VotingYes = c VotingYes
decision_cases P d a b c Closing = c Closing
decision_cases P d a b c Uncertain = a
decision_cases P d a b c (Terminating h) = b h
decision_cases P d a b c RecordingCommit = c RecordingCommit
decision_cases P d a b c RecordingAbort = c RecordingAbort
decision_cases P d a b c DoneCommit = c DoneCommit
decision_cases P d a b c DoneAbort = c DoneAbort
decision_cases P d a b c Down = c Down

pub timeout_cases : (P : Participant → Transition Participant → Type 0) (all i : ℕ) → P Waiting (to Closing)
    → P Uncertain (to (Participant.terminating all i 0)) → ((h : ℕ) → P (Terminating h) (to (Terminating 0)))
    → ((p : Participant) → P p Option.None) → (p : Participant) → P p (Participant.on_timeout all i p)
timeout_cases P all i a b c d Waiting = a
timeout_cases P all i a b c d VotingYes = d VotingYes
timeout_cases P all i a b c d Closing = d Closing
timeout_cases P all i a b c d Uncertain = b
timeout_cases P all i a b c d (Terminating h) = c h
timeout_cases P all i a b c d RecordingCommit = d RecordingCommit
timeout_cases P all i a b c d RecordingAbort = d RecordingAbort
timeout_cases P all i a b c d DoneCommit = d DoneCommit
timeout_cases P all i a b c d DoneAbort = d DoneAbort
timeout_cases P all i a b c d Down = d Down

pub crash_cases : (P : Participant → Transition Participant → Type 0) → ((p : Participant) → P p (to Down)) → P Down Option.None
    → (p : Participant) → P p (Participant.on_crash p)
crash_cases P a b Waiting = a Waiting
crash_cases P a b VotingYes = a VotingYes
crash_cases P a b Closing = a Closing
crash_cases P a b Uncertain = a Uncertain
crash_cases P a b (Terminating h) = a (Terminating h)
crash_cases P a b RecordingCommit = a RecordingCommit
crash_cases P a b RecordingAbort = a RecordingAbort
crash_cases P a b DoneCommit = a DoneCommit
crash_cases P a b DoneAbort = a DoneAbort
crash_cases P a b Down = b

pub restart_cases : (P : Participant → Transition Participant → Type 0) → P Down (to Closing) → ((p : Participant) → P p Option.None)
    → (p : Participant) → P p (Participant.on_restart p)
restart_cases P a b Waiting = b Waiting
restart_cases P a b VotingYes = b VotingYes
restart_cases P a b Closing = b Closing
restart_cases P a b Uncertain = b Uncertain
restart_cases P a b (Terminating h) = b (Terminating h)
restart_cases P a b RecordingCommit = b RecordingCommit
restart_cases P a b RecordingAbort = b RecordingAbort
restart_cases P a b DoneCommit = b DoneCommit
restart_cases P a b DoneAbort = b DoneAbort
restart_cases P a b Down = a

-- the answers: every case in which a call's answer moves a participant. `j` is the log that answered
pub record AnswerCases (all i j : ℕ) (P : Participant → LogRecord → Transition Participant → Type 0) : Type 0 where
  pub none : (p : Participant) (r : LogRecord) → P p r Option.None
  pub vote_yes : P VotingYes Yes (sends Message.ReplyYes Uncertain)
  pub vote_abort : P VotingYes Abort (sends Message.ReplyAbort DoneAbort)
  pub close_yes : P Closing Yes (to (Participant.terminating all i 0))
  pub close_abort : P Closing Abort (sends Message.ReplyAbort DoneAbort)
  pub close_commit : P Closing Commit (to DoneCommit)
  pub hear_yes : (h : ℕ) → P (Terminating h) Yes (to (Participant.terminating all i (insert j h)))
  pub hear_abort : (h : ℕ) → P (Terminating h) Abort (to RecordingAbort)
  pub hear_commit : (h : ℕ) → P (Terminating h) Commit (to RecordingCommit)
  pub record_commit : P RecordingCommit Commit (to DoneCommit)
  pub record_abort : P RecordingAbort Abort (to DoneAbort)

pub answer_cases : (all i j : ℕ) (P : Participant → LogRecord → Transition Participant → Type 0) → AnswerCases all i j P → (p : Participant) (r : LogRecord)
    → P p r (Participant.on_answer all i p j r)
answer_cases all i j P c Waiting r = c.none Waiting r
answer_cases all i j P c VotingYes None = c.none VotingYes None
answer_cases all i j P c VotingYes Yes = c.vote_yes
answer_cases all i j P c VotingYes Abort = c.vote_abort
answer_cases all i j P c VotingYes Commit = c.none VotingYes Commit
answer_cases all i j P c Closing None = c.none Closing None
answer_cases all i j P c Closing Yes = c.close_yes
answer_cases all i j P c Closing Abort = c.close_abort
answer_cases all i j P c Closing Commit = c.close_commit
answer_cases all i j P c Uncertain r = c.none Uncertain r
answer_cases all i j P c (Terminating h) None = c.none (Terminating h) None
answer_cases all i j P c (Terminating h) Yes = c.hear_yes h
answer_cases all i j P c (Terminating h) Abort = c.hear_abort h
answer_cases all i j P c (Terminating h) Commit = c.hear_commit h
answer_cases all i j P c RecordingCommit None = c.none RecordingCommit None
answer_cases all i j P c RecordingCommit Yes = c.none RecordingCommit Yes
answer_cases all i j P c RecordingCommit Abort = c.none RecordingCommit Abort
answer_cases all i j P c RecordingCommit Commit = c.record_commit
answer_cases all i j P c RecordingAbort None = c.none RecordingAbort None
answer_cases all i j P c RecordingAbort Yes = c.none RecordingAbort Yes
answer_cases all i j P c RecordingAbort Abort = c.record_abort
answer_cases all i j P c RecordingAbort Commit = c.none RecordingAbort Commit
answer_cases all i j P c DoneCommit r = c.none DoneCommit r
answer_cases all i j P c DoneAbort r = c.none DoneAbort r
answer_cases all i j P c Down r = c.none Down r

-- the coordinator

pub start_cases : (P : Transition Coordinator → Type 0) → P (Option.Some ((Coordinator.Waiting 0), (Option.Some Message.Request)))
    → P Option.None → (c : Coordinator) → P (Coordinator.on_start c)
start_cases P a b Coordinator.Idle = a
start_cases P a b (Coordinator.Waiting h) = b
start_cases P a b (Coordinator.Terminating h) = b
start_cases P a b Coordinator.Commit = b
start_cases P a b Coordinator.Abort = b
start_cases P a b Coordinator.Down = b
start_cases P a b Coordinator.Retired = b

pub reply_yes_cases : (P : Coordinator → Transition Coordinator → Type 0) (all i : ℕ)
    → ((h : ℕ) → P (Coordinator.Waiting h) (Coordinator.enters (Coordinator.unless_full all (insert i h) (Coordinator.Waiting (insert i h)))))
    → ((c : Coordinator) → P c (to c)) → (c : Coordinator) → P c (Coordinator.on_reply_yes all i c)
reply_yes_cases P all i a b Coordinator.Idle = b Coordinator.Idle
reply_yes_cases P all i a b (Coordinator.Waiting h) = a h
reply_yes_cases P all i a b (Coordinator.Terminating h) = b (Coordinator.Terminating h)
reply_yes_cases P all i a b Coordinator.Commit = b Coordinator.Commit
reply_yes_cases P all i a b Coordinator.Abort = b Coordinator.Abort
reply_yes_cases P all i a b Coordinator.Down = b Coordinator.Down
reply_yes_cases P all i a b Coordinator.Retired = b Coordinator.Retired

pub reply_abort_cases : (P : Coordinator → Transition Coordinator → Type 0)
    → ((h : ℕ) → P (Coordinator.Waiting h) (Coordinator.enters Coordinator.Abort)) → ((c : Coordinator) → P c (to c))
    → (c : Coordinator) → P c (Coordinator.on_reply_abort c)
reply_abort_cases P a b Coordinator.Idle = b Coordinator.Idle
reply_abort_cases P a b (Coordinator.Waiting h) = a h
reply_abort_cases P a b (Coordinator.Terminating h) = b (Coordinator.Terminating h)
reply_abort_cases P a b Coordinator.Commit = b Coordinator.Commit
reply_abort_cases P a b Coordinator.Abort = b Coordinator.Abort
reply_abort_cases P a b Coordinator.Down = b Coordinator.Down
reply_abort_cases P a b Coordinator.Retired = b Coordinator.Retired

pub coordinator_timeout_cases : (P : Transition Coordinator → Type 0) → P (to (Coordinator.Terminating 0)) → P Option.None
    → (c : Coordinator) → P (Coordinator.on_timeout c)
coordinator_timeout_cases P a b Coordinator.Idle = b
coordinator_timeout_cases P a b (Coordinator.Waiting h) = a
coordinator_timeout_cases P a b (Coordinator.Terminating h) = a
coordinator_timeout_cases P a b Coordinator.Commit = b
coordinator_timeout_cases P a b Coordinator.Abort = b
coordinator_timeout_cases P a b Coordinator.Down = b
coordinator_timeout_cases P a b Coordinator.Retired = b

pub coordinator_answer_cases : (P : Coordinator → Transition Coordinator → Type 0) (all j : ℕ) (r : LogRecord)
    → ((c : Coordinator) → P c Option.None) → ((h : ℕ) → P (Coordinator.Terminating h) (Coordinator.on_heard all (insert j h) r))
    → (c : Coordinator) → P c (Coordinator.on_answer all c j r)
coordinator_answer_cases P all j r a b Coordinator.Idle = a Coordinator.Idle
coordinator_answer_cases P all j r a b (Coordinator.Waiting h) = a (Coordinator.Waiting h)
coordinator_answer_cases P all j r a b (Coordinator.Terminating h) = b h
coordinator_answer_cases P all j r a b Coordinator.Commit = a Coordinator.Commit
coordinator_answer_cases P all j r a b Coordinator.Abort = a Coordinator.Abort
coordinator_answer_cases P all j r a b Coordinator.Down = a Coordinator.Down
coordinator_answer_cases P all j r a b Coordinator.Retired = a Coordinator.Retired

pub coordinator_crash_cases : (P : Coordinator → Transition Coordinator → Type 0) → ((c : Coordinator) → P c (to Coordinator.Down))
    → P Coordinator.Down Option.None → (c : Coordinator) → P c (Coordinator.on_crash c)
coordinator_crash_cases P a b Coordinator.Idle = a Coordinator.Idle
coordinator_crash_cases P a b (Coordinator.Waiting h) = a (Coordinator.Waiting h)
coordinator_crash_cases P a b (Coordinator.Terminating h) = a (Coordinator.Terminating h)
coordinator_crash_cases P a b Coordinator.Commit = a Coordinator.Commit
coordinator_crash_cases P a b Coordinator.Abort = a Coordinator.Abort
coordinator_crash_cases P a b Coordinator.Down = b
coordinator_crash_cases P a b Coordinator.Retired = a Coordinator.Retired

pub coordinator_restart_cases : (P : Transition Coordinator → Type 0) → P (to Coordinator.Retired) → P Option.None
    → (c : Coordinator) → P (Coordinator.on_restart c)
coordinator_restart_cases P a b Coordinator.Idle = b
coordinator_restart_cases P a b (Coordinator.Waiting h) = b
coordinator_restart_cases P a b (Coordinator.Terminating h) = b
coordinator_restart_cases P a b Coordinator.Commit = b
coordinator_restart_cases P a b Coordinator.Abort = b
coordinator_restart_cases P a b Coordinator.Down = a
coordinator_restart_cases P a b Coordinator.Retired = b

-- what the coordinator enters: a state, with nothing sent, or a decision, sent
pub enters_cases : (P : Transition Coordinator → Type 0) (c : Coordinator) → P (to c)
    → (c ≡ Coordinator.Commit → P (Option.Some (Coordinator.Commit, (Option.Some Message.Commit))))
    → (c ≡ Coordinator.Abort → P (Option.Some (Coordinator.Abort, (Option.Some Message.Abort)))) → P (Coordinator.enters c)
enters_cases P Coordinator.Idle q a b = q
enters_cases P (Coordinator.Waiting h) q a b = q
enters_cases P (Coordinator.Terminating h) q a b = q
enters_cases P Coordinator.Commit q a b = a refl
enters_cases P Coordinator.Abort q a b = b refl
enters_cases P Coordinator.Down q a b = q
enters_cases P Coordinator.Retired q a b = q
