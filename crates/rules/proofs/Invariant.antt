-- The invariant of a release: what each part of it claims about the first records. Stated over the parts that it reads. Assumes nothing.
use mathlib.Core.Path.{◌≡◌}
use mathlib.Core.Logic.{◌≢◌}
use mathlib.Core.Bool.{true}
use mathlib.Core.List.{List}
use Prim.Native.Nat.{ℕ, ◌≤◌, ◌<◌}
use lib.ListN.{length}
use Rattle.mask.specs.Mask.{has}
use Rattle.rules.specs.State.{participant_at, log_at, mask_at}
use Rattle.rules.specs.Report.{known, coordinator_known, learnt}
use Rattle.rules.specs.Types.{LogRecord, None, Yes, Abort, Commit, LogPair, Participant, Waiting, VotingYes, Closing, Uncertain, Terminating, RecordingCommit, RecordingAbort, DoneCommit, DoneAbort, Down, Coordinator, Message, Site, Outcome, Release}
use Rattle.rules.proofs.FirstRecords.{Claim, nothing, never, voted_yes, every_yes, some_abort, hears, terminates, records_abort, Stated, firsts}

-- what participant i claims by its state
abbrev pub participant_claim : ℕ → Participant → Claim
participant_claim i Waiting = nothing
participant_claim i VotingYes = nothing
participant_claim i Closing = nothing
participant_claim i Uncertain = voted_yes i
participant_claim i (Terminating h) = terminates i h
participant_claim i RecordingCommit = every_yes
participant_claim i RecordingAbort = records_abort i
participant_claim i DoneCommit = every_yes
participant_claim i DoneAbort = some_abort
participant_claim i Down = nothing

-- a log by its first and last record: the pairs allowed
abbrev pub log_claim : LogRecord → LogRecord → Claim
log_claim None None = nothing
log_claim None Yes = never
log_claim None Abort = never
log_claim None Commit = never
log_claim Yes None = never
log_claim Yes Yes = nothing
log_claim Yes Abort = some_abort
log_claim Yes Commit = every_yes
log_claim Abort None = never
log_claim Abort Yes = never
log_claim Abort Abort = nothing
log_claim Abort Commit = never
log_claim Commit last = never

-- the coordinator by its state
abbrev pub coordinator_claim : Coordinator → Claim
coordinator_claim Coordinator.Idle = nothing
coordinator_claim (Coordinator.Waiting h) = hears h
coordinator_claim (Coordinator.Terminating h) = hears h
coordinator_claim Coordinator.Commit = every_yes
coordinator_claim Coordinator.Abort = some_abort
coordinator_claim Coordinator.Down = nothing
coordinator_claim Coordinator.Retired = nothing

-- a message in flight to or from participant i
abbrev pub message_claim : ℕ → Message → Claim
message_claim i Message.Request = nothing
message_claim i Message.ReplyYes = voted_yes i
message_claim i Message.ReplyAbort = some_abort
message_claim i Message.Commit = every_yes
message_claim i Message.Abort = some_abort

-- a step by its outcome
abbrev pub outcome_claim : Outcome → Claim
outcome_claim Outcome.Idle = nothing
outcome_claim Outcome.Moved = nothing
outcome_claim Outcome.Commit = every_yes
outcome_claim Outcome.Abort = some_abort

abbrev pub Knows : ℕ → (ℕ → LogRecord) → ℕ → Participant → Type 0
Knows n F i p = Stated n F (participant_claim i p)

abbrev pub Allowed : ℕ → (ℕ → LogRecord) → LogRecord → LogRecord → Type 0
Allowed n F a b = Stated n F (log_claim a b)

abbrev pub CoordinatorKnows : ℕ → (ℕ → LogRecord) → Coordinator → Type 0
CoordinatorKnows n F c = Stated n F (coordinator_claim c)

abbrev pub Tells : ℕ → (ℕ → LogRecord) → ℕ → Message → Type 0
Tells n F i m = Stated n F (message_claim i m)

abbrev pub Backed : ℕ → (ℕ → LogRecord) → Outcome → Type 0
Backed n F o = Stated n F (outcome_claim o)

-- what a state says of the last record of one's own log
abbrev pub Ends : Participant → LogRecord → Type 0
Ends Waiting r = r ≢ Commit
Ends VotingYes r = r ≢ Commit
Ends Closing r = Unit {0}
Ends Uncertain r = Unit {0}
Ends (Terminating h) r = Unit {0}
Ends RecordingCommit r = Unit {0}
Ends RecordingAbort r = Unit {0}
Ends DoneCommit r = r ≡ Commit
Ends DoneAbort r = r ≡ Abort
Ends Down r = Unit {0}

pub record Invariant (n : ℕ) (c : Coordinator) (messages : List ℕ) (sites : List Site) (logs : List LogPair) : Type 0 where
  -- the arrays have room for the n participants
  pub sites_room : n ≤ length sites
  pub logs_room : n ≤ length logs
  pub knows : (i : ℕ) → i < n → Knows n (firsts (log_at logs)) i (participant_at sites i)
  pub ends : (i : ℕ) → i < n → Ends (participant_at sites i) (log_at logs i).last
  pub pairs : (j : ℕ) → j < n → Allowed n (firsts (log_at logs)) (log_at logs j).first (log_at logs j).last
  pub coordinator_knows : CoordinatorKnows n (firsts (log_at logs)) c
  pub tells : (m : Message) (i : ℕ) → i < n → has i (mask_at messages m) ≡ true → Tells n (firsts (log_at logs)) i m

abbrev pub Inv : Release → Type 0
Inv r = Invariant r.n r.coordinator r.messages r.sites r.store.logs

-- what a party comes to know is what its step reports

module _ (n : ℕ) (F : ℕ → LogRecord) where
  pub known_backed : (i : ℕ) (p : Participant) → Knows n F i p → Backed n F (known p)
  known_backed i Waiting k = tt
  known_backed i VotingYes k = tt
  known_backed i Closing k = tt
  known_backed i Uncertain k = tt
  known_backed i (Terminating h) k = tt
  known_backed i RecordingCommit k = k
  known_backed i RecordingAbort k = k.some
  known_backed i DoneCommit k = k
  known_backed i DoneAbort k = k
  known_backed i Down k = tt

  pub coordinator_backed : (c : Coordinator) → CoordinatorKnows n F c → Backed n F (coordinator_known c)
  coordinator_backed Coordinator.Idle k = tt
  coordinator_backed (Coordinator.Waiting h) k = tt
  coordinator_backed (Coordinator.Terminating h) k = tt
  coordinator_backed Coordinator.Commit k = k
  coordinator_backed Coordinator.Abort k = k
  coordinator_backed Coordinator.Down k = tt
  coordinator_backed Coordinator.Retired k = tt

  pub learnt_backed : (old new : Outcome) → Backed n F new → Backed n F (learnt old new)
  learnt_backed Outcome.Idle new k = k
  learnt_backed Outcome.Moved new k = k
  learnt_backed Outcome.Commit new k = tt
  learnt_backed Outcome.Abort new k = tt
