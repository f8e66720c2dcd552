-- Demand 3, third part: with every vote yes, no due timeout and no due restart, no step reports abort. From any release in which no party would
-- write an abort record and none is written. Assumes nothing.
use mathlib.Core.Path.{◌≡◌, refl, sym, ◌∙◌}
use mathlib.Core.Logic.{◌⊎◌, inl, inr}
use mathlib.Core.List.Memᴰ
use mathlib.Core.List.{List, [], ◌∷◌}
use mathlib.Core.Bool.{Bool, true, false}
use Prim.Native.Nat.{ℕ, suc, ◌<◌}
use native.Mathlib.Omega.{arith}
use lib.Dec.{eqb}
use Rattle.std.specs.Prelude.{Option}
use Rattle.kind.specs.Step.{AllInRange}
use Rattle.mask.specs.Mask.{has, full, insert}
use Rattle.mask.proofs.Laws.{has_full}
use Rattle.store.specs.Log.{empty, perform}
use Rattle.participant.specs.Participant
use Rattle.coordinator.specs.Coordinator
use Rattle.rules.proofs.Cases.{cond_cases, answer_cases, request_cases, decision_cases, crash_cases, start_cases, reply_yes_cases, reply_abort_cases, coordinator_crash_cases, enters_cases}
use Rattle.rules.specs.State.{participant_of, participant_at, log_of, log_at, first_of, waiting, fresh}
use Rattle.rules.specs.Report.{moves}
use Rattle.rules.specs.Step.{called, take_out, with_participant, participant_to, coordinator_to, coordinator_goes, receive, step}
use Rattle.rules.specs.Demand.{SomeAbort, Reported, AllCalm}
use Rattle.rules.specs.Types.{LogRecord, None, Yes, Abort, Commit, LogPair, Call, Logged, Participant, Waiting, VotingYes, Closing, Uncertain, Terminating, RecordingCommit, RecordingAbort, DoneCommit, DoneAbort, Down, Site, Message, Decision, Transition, Coordinator, Step, Timeout, Restart, Outcome, Release, Report}
use Rattle.rules.proofs.FirstRecords.{true_false}
use Rattle.rules.proofs.Written.{LeavesFirst, Writes, perform_first}
use Rattle.rules.proofs.Invariant.{Inv}
use Rattle.rules.proofs.Updates.{set_all, Good}
use Rattle.rules.proofs.Bounds.{Bounds, bounds}
use Rattle.rules.proofs.Causes.{ParticipantCall, CoordinatorCall, Cause, idles, starts, delivers, copies, loses, answered, lost, coordinator_answered_lem, coordinator_lost, times_out, crashes, restarts, coordinator_times_out, coordinator_crashes, coordinator_restarts, cause}
use Rattle.rules.proofs.Safety.{step_good}
use Rattle.rules.proofs.Agreement.{replicate_all}
use Rattle.rules.proofs.Due.{participant_due, coordinator_due}

-- a party that would write no abort as a first record

abbrev pub Willing : Participant → Type 0
Willing Waiting = Unit {0}
Willing VotingYes = Unit {0}
Willing Closing = ⊥
Willing Uncertain = Unit {0}
Willing (Terminating h) = ⊥
Willing RecordingCommit = Unit {0}
Willing RecordingAbort = Unit {0}
Willing DoneCommit = Unit {0}
Willing DoneAbort = Unit {0}
Willing Down = Unit {0}

abbrev pub CoordinatorWilling : Coordinator → Type 0
CoordinatorWilling Coordinator.Idle = Unit {0}
CoordinatorWilling (Coordinator.Waiting h) = Unit {0}
CoordinatorWilling (Coordinator.Terminating h) = ⊥
CoordinatorWilling Coordinator.Commit = Unit {0}
CoordinatorWilling Coordinator.Abort = Unit {0}
CoordinatorWilling Coordinator.Down = Unit {0}
CoordinatorWilling Coordinator.Retired = Unit {0}

abbrev pub NotAbort : LogRecord → Type 0
NotAbort None = Unit {0}
NotAbort Yes = Unit {0}
NotAbort Abort = ⊥
NotAbort Commit = Unit {0}

pub record Unanimity (n votes : ℕ) (c : Coordinator) (sites : List Site) (logs : List LogPair) : Type 0 where
  pub all_yes : votes ≡ full n
  pub coordinator_willing : CoordinatorWilling c
  pub willing : (i : ℕ) → i < n → Willing (participant_at sites i)
  pub no_abort : (j : ℕ) → j < n → NotAbort (log_at logs j).first

abbrev pub Unanimous : Release → Type 0
Unanimous r = Unanimity r.n r.votes r.coordinator r.sites r.store.logs

-- the updates

participant_unanimous : (r : Release) (i : ℕ) (p : Participant) → Unanimous r → Willing p → Unanimous (with_participant i p r)
participant_unanimous r i p u w =
    record {
      all_yes = u.all_yes;
      coordinator_willing = u.coordinator_willing;
      willing = set_all (λ (j : ℕ) (s : Site). j < r.n → Willing s.participant) r.sites i (record { participant = p }) waiting u.willing (λ _. w);
      no_abort = u.no_abort;
    }

to_unanimous : (r : Release) (i : ℕ) (p : Participant) (s : Option Message) → Unanimous r → Willing p → Unanimous (participant_to i p s r).next
unfolding participant_to
to_unanimous r i p Option.None u w = participant_unanimous r i p u w
to_unanimous r i p (Option.Some m) u w = participant_unanimous r i p u w

coordinator_unanimous : (r : Release) (c : Coordinator) (s : Option Message) → Unanimous r → CoordinatorWilling c → Unanimous (coordinator_to c s r).next
unfolding coordinator_to
coordinator_unanimous r c Option.None u w = record { all_yes = u.all_yes; coordinator_willing = w; willing = u.willing; no_abort = u.no_abort }
coordinator_unanimous r c (Option.Some m) u w = record { all_yes = u.all_yes; coordinator_willing = w; willing = u.willing; no_abort = u.no_abort }

called_unanimous : (r : Release) (p j : ℕ) (l : LogPair) → Unanimous r → NotAbort l.first → Unanimous (called p j l r)
called_unanimous r p j l u w =
    record {
      all_yes = u.all_yes;
      coordinator_willing = u.coordinator_willing;
      willing = u.willing;
      no_abort = set_all (λ (i : ℕ) (x : LogPair). i < r.n → NotAbort x.first) r.store.logs j l empty u.no_abort (λ _. w);
    }

-- the rules

abbrev WillingTo : Transition Participant → Type 0
WillingTo Option.None = Unit {0}
WillingTo (Option.Some (p, s)) = Willing p

abbrev CoordinatorWillingTo : Transition Coordinator → Type 0
CoordinatorWillingTo Option.None = Unit {0}
CoordinatorWillingTo (Option.Some (c, s)) = CoordinatorWilling c

request_willing : (vote : Bool) → vote ≡ true → (p : Participant) → Willing p → Willing (Participant.on_request vote p)
request_willing vote q p = request_cases (λ p p'. Willing p → Willing p') vote (λ w. rw q tt) (λ p w. w) p

recording_willing : (d : Decision) → Willing (Participant.recording d)
recording_willing Decision.Commit = tt
recording_willing Decision.Abort = tt

decision_willing : (d : Decision) (p : Participant) → Willing p → Willing (Participant.on_decision d p)
decision_willing d p = decision_cases (λ p p'. Willing p → Willing p') d (λ w. recording_willing d) (λ h w. absurd w) (λ p w. w) p

answer_willing : (all i : ℕ) (p : Participant) (j : ℕ) (a : LogRecord) → Willing p → WillingTo (Participant.on_answer all i p j a)
answer_willing all i p j a =
    answer_cases all i j (λ p a t. Willing p → WillingTo t)
    (record {
      none = λ p a w. tt;
      vote_yes = λ w. tt;
      vote_abort = λ w. tt;
      close_yes = λ w. absurd w;
      close_abort = λ w. absurd w;
      close_commit = λ w. absurd w;
      hear_yes = λ h w. absurd w;
      hear_abort = λ h w. absurd w;
      hear_commit = λ h w. absurd w;
      record_commit = λ w. tt;
      record_abort = λ w. tt;
    })
    p a

enters_willing : (c : Coordinator) → CoordinatorWilling c → CoordinatorWillingTo (Coordinator.enters c)
enters_willing c w = enters_cases CoordinatorWillingTo c w (λ q. tt) (λ q. tt)

reply_yes_willing : (all i : ℕ) (c : Coordinator) → CoordinatorWilling c → CoordinatorWillingTo (Coordinator.on_reply_yes all i c)
reply_yes_willing all i c =
    reply_yes_cases (λ c t. CoordinatorWilling c → CoordinatorWillingTo t) all i
    (λ h w. enters_willing (Coordinator.unless_full all (insert i h) (Coordinator.Waiting (insert i h)))
    (cond_cases CoordinatorWilling (eqb (insert i h) all) Coordinator.Commit (Coordinator.Waiting (insert i h)) (λ t. tt) (λ t. tt))) (λ c w. w) c

reply_abort_willing : (c : Coordinator) → CoordinatorWilling c → CoordinatorWillingTo (Coordinator.on_reply_abort c)
reply_abort_willing c = reply_abort_cases (λ c t. CoordinatorWilling c → CoordinatorWillingTo t) (λ h w. tt) (λ c w. w) c

-- a willing party's call leaves no abort as a first record

abbrev LeavesNoAbort : Option Logged → Type 0
LeavesNoAbort p = LeavesFirst NotAbort p

abbrev WillingCall : Option Call → Type 0
WillingCall c = Writes NotAbort c

own_willing : (i j : ℕ) (c : Call) → WillingCall (Option.Some c) → WillingCall (Participant.own_call i j c)
own_willing i j c w = cond_cases WillingCall (eqb j i) (Option.Some c) Option.None (λ t. w) (λ t. tt)

pending_willing : (i : ℕ) (p : Participant) (j : ℕ) → Willing p → WillingCall (Participant.pending i p j)
pending_willing i Waiting j w = tt
pending_willing i VotingYes j w = own_willing i j (Call.LogOnce Yes) tt
pending_willing i Closing j w = absurd w
pending_willing i Uncertain j w = tt
pending_willing i (Terminating h) j w = absurd w
pending_willing i RecordingCommit j w = own_willing i j (Call.Log Commit) tt
pending_willing i RecordingAbort j w = own_willing i j (Call.Log Abort) tt
pending_willing i DoneCommit j w = tt
pending_willing i DoneAbort j w = tt
pending_willing i Down j w = tt

-- a coordinator that is not terminating calls nothing
no_coordinator_call : (c : Coordinator) (j : ℕ) (l : LogPair) → CoordinatorWilling c → perform (Coordinator.pending c j) l ≡ Option.None
no_coordinator_call Coordinator.Idle j l w = refl
no_coordinator_call (Coordinator.Waiting h) j l w = refl
no_coordinator_call (Coordinator.Terminating h) j l w = absurd w
no_coordinator_call Coordinator.Commit j l w = refl
no_coordinator_call Coordinator.Abort j l w = refl
no_coordinator_call Coordinator.Down j l w = refl
no_coordinator_call Coordinator.Retired j l w = refl

-- messages

goes_unanimous : (r : Release) (t : Transition Coordinator) → Unanimous r → CoordinatorWillingTo t → Unanimous (coordinator_goes t r).next
goes_unanimous r Option.None u w = u
goes_unanimous r (Option.Some (c, s)) u w = coordinator_unanimous r c s u w

receive_unanimous : (r : Release) (m : Message) (i : ℕ) → i < r.n → Unanimous r → Unanimous (receive m i r).next
receive_unanimous r Message.Request i h u =
    to_unanimous r i (Participant.on_request (has i r.votes) (participant_of r i)) Option.None u
    (request_willing (has i r.votes) (rw u.all_yes (has_full i r.n h)) (participant_of r i) (u.willing i h))
receive_unanimous r Message.ReplyYes i h u =
    goes_unanimous r (Coordinator.on_reply_yes (full r.n) i r.coordinator) u (reply_yes_willing (full r.n) i r.coordinator u.coordinator_willing)
receive_unanimous r Message.ReplyAbort i h u =
    goes_unanimous r (Coordinator.on_reply_abort r.coordinator) u (reply_abort_willing r.coordinator u.coordinator_willing)
receive_unanimous r Message.Commit i h u =
    to_unanimous r i (Participant.on_decision Decision.Commit (participant_of r i)) Option.None u (decision_willing Decision.Commit (participant_of r i) (u.willing i h))
receive_unanimous r Message.Abort i h u =
    to_unanimous r i (Participant.on_decision Decision.Abort (participant_of r i)) Option.None u (decision_willing Decision.Abort (participant_of r i) (u.willing i h))

-- calls

call_unanimous : (r : Release) (i j : ℕ) (l : Logged) (p : Participant) (x : Option Message) → i < r.n → j < r.n → ParticipantCall r i j l p x → Unanimous r
    → Unanimous (called (suc i) j l.log r) × Willing p
call_unanimous r i j l p x hi hj a u = (
  called_unanimous r (suc i) j l.log u (rw a.done at (perform_first NotAbort (Participant.pending i (participant_of r i) j) (log_of r j) (pending_willing i (participant_of r i) j (u.willing i hi)) (u.no_abort j hj))),
  rw a.answer at (answer_willing (full r.n) i (participant_of r i) j l.answer (u.willing i hi)),
)

no_call : (r : Release) (j : ℕ) (l : Logged) (c : Coordinator) (x : Option Message) → CoordinatorCall r j l c x → Unanimous r → ⊥
no_call r j l c x a u = refused (sym (no_coordinator_call r.coordinator j (log_of r j) u.coordinator_willing) ∙ a.done)
  where
    refused : Option.None ≡ Option.Some l → ⊥
    refused q = let z : ◌≡◌ {A = ℕ} 0 1 = cc in omega arith

-- the conditions, of a step with outcome o
record Quiet (s : Step) (o : Outcome) : Type 0 where
  timeout : (p : ℕ) → s ≡ Timeout p → moves o ≡ false
  restart : (p : ℕ) → s ≡ Restart p → moves o ≡ false

caused_unanimous : (r : Release) {s : Step} {t : Report} → Cause r s t → Bounds r.n s → Quiet s t.outcome → Unanimous r → Unanimous t.next
caused_unanimous r idles h d u = u
caused_unanimous r (starts {c} {x} q) h d u = coordinator_unanimous r c x u (rw q at (start_cases CoordinatorWillingTo tt tt r.coordinator))
caused_unanimous r (delivers {m} {i} b) h d u = receive_unanimous (take_out m i r) m i h.1 u
caused_unanimous r (copies {m} {i} b) h d u = receive_unanimous r m i h.1 u
caused_unanimous r loses h d u = u
caused_unanimous r (answered {i} {j} {l} {p} {x} a) h d u =
    let w = call_unanimous r i j l p x h.0 h.2 a u in to_unanimous (called (suc i) j l.log r) i p x w.0 w.1
caused_unanimous r (lost {i} {j} {l} {p} {x} a) h d u = (call_unanimous r i j l p x h.0 h.2 a u).0
caused_unanimous r (coordinator_answered_lem {j} {l} {c} {x} a) h d u = absurd (no_call r j l c x a u)
caused_unanimous r (coordinator_lost {j} {l} {c} {x} a) h d u = absurd (no_call r j l c x a u)
caused_unanimous r (times_out {i} {p} {x} q) h d u = absurd (true_false (participant_due i p x r) (d.timeout (suc i) refl))
caused_unanimous r (crashes {i} {p} {x} q) h d u = to_unanimous r i p x u (rw q at (crash_cases (λ p t. WillingTo t) (λ p. tt) tt (participant_of r i)))
caused_unanimous r (restarts {i} {p} {x} q) h d u = absurd (true_false (participant_due i p x r) (d.restart (suc i) refl))
caused_unanimous r (coordinator_times_out {c} {x} q) h d u = absurd (true_false (coordinator_due c x r) (d.timeout 0 refl))
caused_unanimous r (coordinator_crashes {c} {x} q) h d u = coordinator_unanimous r c x u (rw q at (coordinator_crash_cases (λ c t. CoordinatorWillingTo t) (λ c. tt) tt r.coordinator))
caused_unanimous r (coordinator_restarts {c} {x} q) h d u = absurd (true_false (coordinator_due c x r) (d.restart 0 refl))

-- over a list

none_written : (r : Release) → Unanimous r → SomeAbort r.n (first_of r) → ⊥
none_written r u a = rw a.aborted at (u.no_abort a.at a.below)

pub no_abort_from : (r : Release) (ss : List Step) → AllInRange r.n ss → AllCalm r ss → Inv r → Unanimous r → Reported Outcome.Abort r ss → ⊥
no_abort_from r [] h d v u m = Memᴰ.not-nil m
no_abort_from r (s ∷ ss) h d v u m = go (Memᴰ.cases_cons m) (no_abort_from (step r s).next ss)
  where
    g : Good r (step r s)
    g = step_good r s h.0 v

    next : Unanimous (step r s).next
    next = caused_unanimous r (cause r s) (bounds r.n s h.0) (record { timeout = d.0.timeout; restart = d.0.restart }) u

    go : (Outcome.Abort ≡ (step r s).outcome) ⊎ Reported Outcome.Abort (step r s).next ss
        → (AllInRange (step r s).next.n ss → AllCalm (step r s).next ss → Inv (step r s).next → Unanimous (step r s).next
        → Reported Outcome.Abort (step r s).next ss → ⊥) → ⊥
    go (inl q) ih = none_written (step r s).next next (rw (sym q) at g.backed)
    go (inr k) ih = ih (rw g.same_n h.1) d.1 g.inv next k

pub fresh_unanimous : (places n votes : ℕ) → votes ≡ full n → Unanimous (fresh places n votes)
fresh_unanimous places n votes q =
    record {
      all_yes = q;
      coordinator_willing = tt;
      willing = λ i h. replicate_all (λ (s : Site). Willing s.participant) places i waiting tt;
      no_abort = λ j h. replicate_all (λ (l : LogPair). NotAbort l.first) places j empty tt;
    }
