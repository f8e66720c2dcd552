-- What a log says, and what a call makes of it. Assumes nothing.
use mathlib.Core.Path.{◌≡◌, refl}
use mathlib.Core.Logic.{◌≢◌}
use mathlib.Core.Bool.{◌||◌}
use Prim.Native.Nat.{ℕ, ◌<◌}
use native.Mathlib.Omega.{arith}
use lib.Dec.{eqb}
use borrow.Author.Tests.{eqb-true}
use Rattle.std.specs.Prelude.{Option}
use Rattle.mask.specs.Mask.{has}
use Rattle.mask.proofs.Laws.{has_insert_neither}
use Rattle.store.specs.Log.{log_once, perform}
use Rattle.participant.specs.Participant
use Rattle.coordinator.specs.Coordinator
use Rattle.rules.proofs.Ranges.{Guard}
use Rattle.rules.proofs.Cases.{cond_cases}
use Rattle.rules.specs.Types.{LogRecord, None, Yes, Abort, Commit, LogPair, Call, Logged, Participant, Waiting, VotingYes, Closing, Uncertain, Terminating, RecordingCommit, RecordingAbort, DoneCommit, DoneAbort, Down, Coordinator}
use Rattle.rules.proofs.FirstRecords.{Claim, nothing, voted_yes, every_yes, some_abort, Stated, keep_refl}
use Rattle.rules.proofs.Invariant.{Ends, Allowed, Knows}
use Rattle.rules.proofs.Updates.{Change}

-- what a last record of log j says
abbrev pub record_claim : ℕ → LogRecord → Claim
record_claim j None = nothing
record_claim j Yes = voted_yes j
record_claim j Abort = some_abort
record_claim j Commit = every_yes

abbrev pub Says : ℕ → (ℕ → LogRecord) → ℕ → LogRecord → Type 0
Says n F j r = Stated n F (record_claim j r)

pub says : (n : ℕ) (F : ℕ → LogRecord) (j : ℕ) → j < n → (first last : LogRecord) → F j ≡ first → Allowed n F first last → Says n F j last
says n F j l None None q a = tt
says n F j l None Yes q a = absurd a
says n F j l None Abort q a = absurd a
says n F j l None Commit q a = absurd a
says n F j l Yes None q a = tt
says n F j l Yes Yes q a = q
says n F j l Yes Abort q a = a
says n F j l Yes Commit q a = a
says n F j l Abort None q a = tt
says n F j l Abort Yes q a = absurd a
says n F j l Abort Abort q a = record { at = j; below = l; aborted = q }
says n F j l Abort Commit q a = absurd a
says n F j l Commit last q a = absurd a

-- the records that LogOnce takes here
abbrev pub Vote : LogRecord → Type 0
Vote None = ⊥
Vote Yes = Unit {0}
Vote Abort = Unit {0}
Vote Commit = ⊥

-- Log of a decision on one's own log, where one's state allows any last record
pub record Writes (n : ℕ) (F : ℕ → LogRecord) (j : ℕ) (p : Participant) (r : LogRecord) : Type 0 where
  pub free : (x : LogRecord) → Ends p x
  pub known : Says n F j r

-- `p` is the participant whose log it is
abbrev pub CallFits : ℕ → (ℕ → LogRecord) → ℕ → Participant → Option Call → Type 0
CallFits n F j p Option.None = Unit {0}
CallFits n F j p (Option.Some (Call.LogOnce r)) = Vote r
CallFits n F j p (Option.Some (Call.Log r)) = Writes n F j p r

abbrev pub PerformedFits : ℕ → (ℕ → LogRecord) → Participant → LogPair → Option Logged → Type 0
PerformedFits n F p old Option.None = Unit {0}
PerformedFits n F p old (Option.Some x) = Change n F p old x.log

vote_no_commit : (r : LogRecord) → Vote r → r ≢ Commit
vote_no_commit None h q = h
vote_no_commit Yes h q = let z : ◌≡◌ {A = ℕ} 0 1 = cc in omega arith
vote_no_commit Abort h q = let z : ◌≡◌ {A = ℕ} 0 1 = cc in omega arith
vote_no_commit Commit h q = h

empty_ends : (r : LogRecord) (p : Participant) → Vote r → Ends p None → Ends p r
empty_ends r Waiting h k = vote_no_commit r h
empty_ends r VotingYes h k = vote_no_commit r h
empty_ends r Closing h k = tt
empty_ends r Uncertain h k = tt
empty_ends r (Terminating m) h k = tt
empty_ends r RecordingCommit h k = tt
empty_ends r RecordingAbort h k = tt
empty_ends r DoneCommit h k = absurd (let z : ◌≡◌ {A = ℕ} 0 1 = cc in omega arith)
empty_ends r DoneAbort h k = absurd (let z : ◌≡◌ {A = ℕ} 0 1 = cc in omega arith)
empty_ends r Down h k = tt

module _ (n : ℕ) (F : ℕ → LogRecord) (p : Participant) where
  -- a vote on an empty log
  first_fits : (r last : LogRecord) → Vote r → Allowed n F None last → Ends p last → Change n F p (record { first = None; last = last }) (record { first = r; last = r })
  first_fits r Yes h a k = absurd a
  first_fits r Abort h a k = absurd a
  first_fits r Commit h a k = absurd a
  first_fits None None h a k = absurd h
  first_fits Commit None h a k = absurd h
  first_fits Yes None h a k =
      record {
        keep = record { yes = λ q. refl; abort = λ q. cc; last_commit = λ q. cc; last_abort = λ q. cc };
        allowed = tt;
        ends = empty_ends Yes p h k;
      }
  first_fits Abort None h a k =
      record {
        keep = record { yes = λ q. cc; abort = λ q. refl; last_commit = λ q. cc; last_abort = λ q. cc };
        allowed = tt;
        ends = empty_ends Abort p h k;
      }

  same : (l : LogPair) → Allowed n F l.first l.last → Ends p l.last → Change n F p l l
  same l a k = record { keep = keep_refl l; allowed = a; ends = k }

  once_fits : (r first last : LogRecord) → Vote r → Allowed n F first last → Ends p last
      → Change n F p (record { first = first; last = last }) (log_once r (record { first = first; last = last })).log
  once_fits r None last h a k = first_fits r last h a k
  once_fits r Yes last h a k = same (record { first = Yes; last = last }) a k
  once_fits r Abort last h a k = same (record { first = Abort; last = last }) a k
  once_fits r Commit last h a k = absurd a

  -- a decision over a yes vote
  over_yes : (r : LogRecord) → Allowed n F Yes r → Ends p r → Change n F p (record { first = Yes; last = Yes }) (record { first = Yes; last = r })
  over_yes r a k =
      record { keep = record { yes = λ q. refl; abort = λ q. cc; last_commit = λ q. cc; last_abort = λ q. cc }; allowed = a; ends = k }

  -- a decision over a yes vote or over itself
  log_fits : (j : ℕ) (r first last : LogRecord) → Writes n F j p r → Allowed n F first last
      → PerformedFits n F p (record { first = first; last = last }) (perform (Option.Some (Call.Log r)) (record { first = first; last = last }))
  log_fits j None first last w a = tt
  log_fits j Yes first last w a = tt
  log_fits j Commit first None w a = tt
  log_fits j Commit first Abort w a = tt
  log_fits j Commit None Yes w a = absurd a
  log_fits j Commit Yes Yes w a = over_yes Commit w.known (w.free Commit)
  log_fits j Commit Abort Yes w a = absurd a
  log_fits j Commit Commit Yes w a = absurd a
  log_fits j Commit first Commit w a = same (record { first = first; last = Commit }) a (w.free Commit)
  log_fits j Abort first None w a = tt
  log_fits j Abort first Commit w a = tt
  log_fits j Abort None Yes w a = absurd a
  log_fits j Abort Yes Yes w a = over_yes Abort w.known (w.free Abort)
  log_fits j Abort Abort Yes w a = absurd a
  log_fits j Abort Commit Yes w a = absurd a
  log_fits j Abort first Abort w a = same (record { first = first; last = Abort }) a (w.free Abort)

  pub perform_fits : (j : ℕ) (c : Option Call) (l : LogPair) → CallFits n F j p c → Allowed n F l.first l.last → Ends p l.last
      → PerformedFits n F p l (perform c l)
  perform_fits j Option.None l h a k = tt
  perform_fits j (Option.Some (Call.LogOnce r)) l h a k = once_fits r l.first l.last h a k
  perform_fits j (Option.Some (Call.Log r)) l h a k = log_fits j r l.first l.last h a

-- the calls that the rules make

-- a pending call of participant i, in state p, on log j of participant P j
abbrev pub Pends : ℕ → (ℕ → LogRecord) → (ℕ → Participant) → ℕ → Participant → ℕ → Option Call → Type 0
Pends n F P i p j Option.None = Unit {0}
Pends n F P i p j (Option.Some (Call.LogOnce r)) = Vote r × Guard i p j
Pends n F P i p j (Option.Some (Call.Log r)) = Writes n F j (P j) r × Guard i p j

module _ (n : ℕ) (F : ℕ → LogRecord) (P : ℕ → Participant) (i j : ℕ) where
  own_pends : (p : Participant) (c : Call) → (j ≡ i → Pends n F P i p j (Option.Some c)) → Pends n F P i p j (Participant.own_call i j c)
  own_pends p c f = cond_cases (Pends n F P i p j) (eqb j i) (Option.Some c) Option.None (λ t. f (eqb-true j i t)) (λ t. tt)

  pub pending_fits : (p : Participant) → P i ≡ p → Knows n F i p → Pends n F P i p j (Participant.pending i p j)
  pending_fits Waiting q k = tt
  pending_fits VotingYes q k = own_pends VotingYes (Call.LogOnce Yes) (λ e. (tt, e))
  pending_fits Closing q k = own_pends Closing (Call.LogOnce Abort) (λ e. (tt, e))
  pending_fits Uncertain q k = tt
  pending_fits (Terminating h) q k =
      cond_cases (Pends n F P i (Terminating h) j) (eqb j i || has j h) Option.None (Option.Some (Call.LogOnce Abort)) (λ t. tt) (λ t. (tt, has_insert_neither i j h t))
  pending_fits RecordingCommit q k =
      own_pends RecordingCommit (Call.Log Commit) (λ e. (record { free = λ x. rw (e, q) tt; known = k }, e))
  pending_fits RecordingAbort q k =
      own_pends RecordingAbort (Call.Log Abort) (λ e. (record { free = λ x. rw (e, q) tt; known = k.some }, e))
  pending_fits DoneCommit q k = tt
  pending_fits DoneAbort q k = tt
  pending_fits Down q k = tt

pub coordinator_pending_fits : (n : ℕ) (F : ℕ → LogRecord) (p : Participant) (j : ℕ) (c : Coordinator) → CallFits n F j p (Coordinator.pending c j)
coordinator_pending_fits n F p j Coordinator.Idle = tt
coordinator_pending_fits n F p j (Coordinator.Waiting h) = tt
coordinator_pending_fits n F p j (Coordinator.Terminating h) =
    cond_cases (CallFits n F j p) (has j h) Option.None (Option.Some (Call.LogOnce Abort)) (λ t. tt) (λ t. tt)
coordinator_pending_fits n F p j Coordinator.Commit = tt
coordinator_pending_fits n F p j Coordinator.Abort = tt
coordinator_pending_fits n F p j Coordinator.Down = tt
coordinator_pending_fits n F p j Coordinator.Retired = tt
