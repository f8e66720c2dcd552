-- A log's first record is yes only by a yes vote of its participant: who is to vote yes has that vote, and nobody else writes a yes. Assumes nothing.
use mathlib.Core.Path.{◌≡◌}
use mathlib.Core.Bool.{Bool, true, ◌||◌}
use mathlib.Core.List.{List, [], ◌∷◌}
use Prim.Native.Nat.{ℕ, suc}
use lib.Dec.{eqb}
use borrow.Author.Tests.{eqb-true}
use Rattle.std.specs.Prelude.{Option}
use Rattle.mask.specs.Mask.{has, insert, full}
use Rattle.store.specs.Log.{empty}
use Rattle.participant.specs.Participant
use Rattle.coordinator.specs.Coordinator
use Rattle.rules.specs.State.{participant_of, participant_at, log_of, log_at, waiting, fresh}
use Rattle.rules.specs.Step.{called, take_out, participant_to, coordinator_to, coordinator_goes, receive, step}
use Rattle.rules.specs.Run.{after}
use Rattle.rules.specs.History.{YesByVote}
use Rattle.rules.specs.Types.{LogRecord, None, Yes, Abort, Commit, LogPair, Call, Logged, Participant, Waiting, VotingYes, Closing, Uncertain, Terminating, RecordingCommit, RecordingAbort, DoneCommit, DoneAbort, Down, Site, Message, Decision, Transition, Coordinator, Step, Release, Report}
use Rattle.rules.proofs.Cases.{cond_cases, answer_cases, request_cases, decision_cases, timeout_cases, crash_cases, restart_cases}
use Rattle.rules.proofs.Updates.{set_all}
use Rattle.rules.proofs.Causes.{ParticipantCall, CoordinatorCall, Cause, idles, starts, delivers, copies, loses, answered, lost, coordinator_answered_lem, coordinator_lost, times_out, crashes, restarts, coordinator_times_out, coordinator_crashes, coordinator_restarts, cause}
use Rattle.rules.proofs.Agreement.{replicate_all}
use Rattle.rules.proofs.Written.{Writes, perform_first}
use Rattle.rules.proofs.OneParty.{header_kept}

-- a participant that is to vote yes, and a log that begins with yes, by the vote

abbrev Asked : Bool → Participant → Type 0
Asked vote Waiting = Unit {0}
Asked vote VotingYes = vote ≡ true
Asked vote Closing = Unit {0}
Asked vote Uncertain = Unit {0}
Asked vote (Terminating h) = Unit {0}
Asked vote RecordingCommit = Unit {0}
Asked vote RecordingAbort = Unit {0}
Asked vote DoneCommit = Unit {0}
Asked vote DoneAbort = Unit {0}
Asked vote Down = Unit {0}

abbrev YesBy : Bool → LogRecord → Type 0
YesBy vote None = Unit {0}
YesBy vote Yes = vote ≡ true
YesBy vote Abort = Unit {0}
YesBy vote Commit = Unit {0}

record Voting (votes : ℕ) (sites : List Site) (logs : List LogPair) : Type 0 where
  asked : (i : ℕ) → Asked (has i votes) (participant_at sites i)
  written : (j : ℕ) → YesBy (has j votes) (log_at logs j).first

abbrev Voted : Release → Type 0
Voted r = Voting r.votes r.sites r.store.logs

-- the updates

to_voted : (r : Release) (i : ℕ) (p : Participant) (s : Option Message) → Voted r → Asked (has i r.votes) p → Voted (participant_to i p s r).next
unfolding participant_to
to_voted r i p Option.None v a =
    record { asked = set_all (λ (j : ℕ) (s : Site). Asked (has j r.votes) s.participant) r.sites i (record { participant = p }) waiting v.asked a; written = v.written }
to_voted r i p (Option.Some m) v a =
    record { asked = set_all (λ (j : ℕ) (s : Site). Asked (has j r.votes) s.participant) r.sites i (record { participant = p }) waiting v.asked a; written = v.written }

coordinator_voted : (r : Release) (c : Coordinator) (s : Option Message) → Voted r → Voted (coordinator_to c s r).next
unfolding coordinator_to
coordinator_voted r c Option.None v = v
coordinator_voted r c (Option.Some m) v = v

called_voted : (r : Release) (p j : ℕ) (l : LogPair) → Voted r → YesBy (has j r.votes) l.first → Voted (called p j l r)
called_voted r p j l v y =
    record { asked = v.asked; written = set_all (λ (k : ℕ) (x : LogPair). YesBy (has k r.votes) x.first) r.store.logs j l empty v.written y }

-- the rules: only a request makes a participant vote yes, by its vote

abbrev AskedTo : Bool → Transition Participant → Type 0
AskedTo vote Option.None = Unit {0}
AskedTo vote (Option.Some (p, s)) = Asked vote p

request_asked : (vote : Bool) (p : Participant) → Asked vote p → Asked vote (Participant.on_request vote p)
request_asked vote p = request_cases (λ p p'. Asked vote p → Asked vote p') vote (λ a. cond_cases (Asked vote) vote VotingYes Closing (λ t. t) (λ t. tt)) (λ p a. a) p

recording_asked : (vote : Bool) (d : Decision) → Asked vote (Participant.recording d)
recording_asked vote Decision.Commit = tt
recording_asked vote Decision.Abort = tt

decision_asked : (vote : Bool) (d : Decision) (p : Participant) → Asked vote p → Asked vote (Participant.on_decision d p)
decision_asked vote d p =
    decision_cases (λ p p'. Asked vote p → Asked vote p') d (λ a. recording_asked vote d) (λ h a. recording_asked vote d) (λ p a. a) p

terminating_asked : (vote : Bool) (all i h : ℕ) → Asked vote (Participant.terminating all i h)
terminating_asked vote all i h = cond_cases (Asked vote) (eqb (insert i h) all) RecordingCommit (Terminating h) (λ t. tt) (λ t. tt)

answer_asked : (vote : Bool) (all i : ℕ) (p : Participant) (j : ℕ) (a : LogRecord) → AskedTo vote (Participant.on_answer all i p j a)
answer_asked vote all i p j a =
    answer_cases all i j (λ p a t. AskedTo vote t)
    (record {
      none = λ p a. tt;
      vote_yes = tt;
      vote_abort = tt;
      close_yes = terminating_asked vote all i 0;
      close_abort = tt;
      close_commit = tt;
      hear_yes = λ h. terminating_asked vote all i (insert j h);
      hear_abort = λ h. tt;
      hear_commit = λ h. tt;
      record_commit = tt;
      record_abort = tt;
    })
    p a

timeout_asked : (vote : Bool) (all i : ℕ) (p : Participant) → AskedTo vote (Participant.on_timeout all i p)
timeout_asked vote all i p = timeout_cases (λ p t. AskedTo vote t) all i tt (terminating_asked vote all i 0) (λ h. tt) (λ p. tt) p

-- the calls: only a participant that is to vote yes writes a yes, to its own log

own_yes : (votes i j : ℕ) (r : LogRecord) → YesBy (has i votes) r → Writes (YesBy (has j votes)) (Participant.own_call i j (Call.LogOnce r))
own_yes votes i j r y = cond_cases (Writes (YesBy (has j votes))) (eqb j i) (Option.Some (Call.LogOnce r)) Option.None (λ t. rw (eqb-true j i t) y) (λ t. tt)

own_log : (votes i j : ℕ) (r : LogRecord) → Writes (YesBy (has j votes)) (Participant.own_call i j (Call.Log r))
own_log votes i j r = cond_cases (Writes (YesBy (has j votes))) (eqb j i) (Option.Some (Call.Log r)) Option.None (λ t. tt) (λ t. tt)

pending_yes : (votes i : ℕ) (p : Participant) (j : ℕ) → Asked (has i votes) p → Writes (YesBy (has j votes)) (Participant.pending i p j)
pending_yes votes i Waiting j a = tt
pending_yes votes i VotingYes j a = own_yes votes i j Yes a
pending_yes votes i Closing j a = own_yes votes i j Abort tt
pending_yes votes i Uncertain j a = tt
pending_yes votes i (Terminating h) j a = cond_cases (Writes (YesBy (has j votes))) (eqb j i || has j h) Option.None (Option.Some (Call.LogOnce Abort)) (λ t. tt) (λ t. tt)
pending_yes votes i RecordingCommit j a = own_log votes i j Commit
pending_yes votes i RecordingAbort j a = own_log votes i j Abort
pending_yes votes i DoneCommit j a = tt
pending_yes votes i DoneAbort j a = tt
pending_yes votes i Down j a = tt

coordinator_pending_yes : (vote : Bool) (c : Coordinator) (j : ℕ) → Writes (YesBy vote) (Coordinator.pending c j)
coordinator_pending_yes vote Coordinator.Idle j = tt
coordinator_pending_yes vote (Coordinator.Waiting h) j = tt
coordinator_pending_yes vote (Coordinator.Terminating h) j = cond_cases (Writes (YesBy vote)) (has j h) Option.None (Option.Some (Call.LogOnce Abort)) (λ t. tt) (λ t. tt)
coordinator_pending_yes vote Coordinator.Commit j = tt
coordinator_pending_yes vote Coordinator.Abort j = tt
coordinator_pending_yes vote Coordinator.Down j = tt
coordinator_pending_yes vote Coordinator.Retired j = tt

call_voted : (r : Release) (i j : ℕ) (l : Logged) (p : Participant) (x : Option Message) → ParticipantCall r i j l p x → Voted r → Voted (called (suc i) j l.log r)
call_voted r i j l p x a v =
    called_voted r (suc i) j l.log v
    (rw a.done at (perform_first (YesBy (has j r.votes)) (Participant.pending i (participant_of r i) j) (log_of r j) (pending_yes r.votes i (participant_of r i) j (v.asked i)) (v.written j)))

coordinator_call_voted : (r : Release) (j : ℕ) (l : Logged) (c : Coordinator) (x : Option Message) → CoordinatorCall r j l c x → Voted r → Voted (called 0 j l.log r)
coordinator_call_voted r j l c x a v =
    called_voted r 0 j l.log v
    (rw a.done at (perform_first (YesBy (has j r.votes)) (Coordinator.pending r.coordinator j) (log_of r j) (coordinator_pending_yes (has j r.votes) r.coordinator j) (v.written j)))

-- messages

goes_voted : (r : Release) (t : Transition Coordinator) → Voted r → Voted (coordinator_goes t r).next
goes_voted r Option.None v = v
goes_voted r (Option.Some (c, s)) v = coordinator_voted r c s v

receive_voted : (r : Release) (m : Message) (i : ℕ) → Voted r → Voted (receive m i r).next
receive_voted r Message.Request i v = to_voted r i _ Option.None v (request_asked (has i r.votes) (participant_of r i) (v.asked i))
receive_voted r Message.ReplyYes i v = goes_voted r (Coordinator.on_reply_yes (full r.n) i r.coordinator) v
receive_voted r Message.ReplyAbort i v = goes_voted r (Coordinator.on_reply_abort r.coordinator) v
receive_voted r Message.Commit i v = to_voted r i _ Option.None v (decision_asked (has i r.votes) Decision.Commit (participant_of r i) (v.asked i))
receive_voted r Message.Abort i v = to_voted r i _ Option.None v (decision_asked (has i r.votes) Decision.Abort (participant_of r i) (v.asked i))

caused_voted : (r : Release) {s : Step} {t : Report} → Cause r s t → Voted r → Voted t.next
caused_voted r idles v = v
caused_voted r (starts {c} {x} q) v = coordinator_voted r c x v
caused_voted r (delivers {m} {i} b) v = receive_voted (take_out m i r) m i v
caused_voted r (copies {m} {i} b) v = receive_voted r m i v
caused_voted r loses v = v
caused_voted r (answered {i} {j} {l} {p} {x} a) v =
    to_voted (called (suc i) j l.log r) i p x (call_voted r i j l p x a v) (rw a.answer at (answer_asked (has i r.votes) (full r.n) i (participant_of r i) j l.answer))
caused_voted r (lost {i} {j} {l} {p} {x} a) v = call_voted r i j l p x a v
caused_voted r (coordinator_answered_lem {j} {l} {c} {x} a) v = coordinator_voted (called 0 j l.log r) c x (coordinator_call_voted r j l c x a v)
caused_voted r (coordinator_lost {j} {l} {c} {x} a) v = coordinator_call_voted r j l c x a v
caused_voted r (times_out {i} {p} {x} q) v = to_voted r i p x v (rw q at (timeout_asked (has i r.votes) (full r.n) i (participant_of r i)))
caused_voted r (crashes {i} {p} {x} q) v = to_voted r i p x v (rw q at (crash_cases (λ p t. AskedTo (has i r.votes) t) (λ p. tt) tt (participant_of r i)))
caused_voted r (restarts {i} {p} {x} q) v = to_voted r i p x v (rw q at (restart_cases (λ p t. AskedTo (has i r.votes) t) tt (λ p. tt) (participant_of r i)))
caused_voted r (coordinator_times_out {c} {x} q) v = coordinator_voted r c x v
caused_voted r (coordinator_crashes {c} {x} q) v = coordinator_voted r c x v
caused_voted r (coordinator_restarts {c} {x} q) v = coordinator_voted r c x v

-- over a list

voted_after : (r : Release) (steps : List Step) → Voted r → Voted (after r steps)
voted_after r [] v = v
voted_after r (s ∷ ss) v = voted_after (step r s).next ss (caused_voted r (cause r s) v)

pub yes_by_vote : YesByVote
yes_by_vote places n votes steps i q = rw (header_kept (fresh places n votes) steps).1 at (rw q at ((voted_after (fresh places n votes) steps none).written i))
  where
    none : Voted (fresh places n votes)
    none =
        record {
          asked = λ j. replicate_all (λ (s : Site). Asked (has j votes) s.participant) places j waiting tt;
          written = λ j. replicate_all (λ (l : LogPair). YesBy (has j votes) l.first) places j empty tt;
        }
