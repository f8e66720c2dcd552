-- What the bytes of steps say: the outcome and the word `closed`, and that 4 and 6 never occur. Assumes nothing.
use mathlib.Core.Path.{◌≡◌, refl, sym, ap, ap₂, subst, ◌∙◌}
use mathlib.Core.Logic.{◌≢◌}
use mathlib.Core.Bool.{Bool, true, false, false≢true, cond, not}
use Prim.Native.Nat.{ℕ, suc, ◌≤◌}
use native.Mathlib.Omega.{arith}
use lib.Dec.{eqb, lit≤}
use Rattle.std.specs.Prelude.{Option}
use Rattle.number.specs.Numbering.{Inverse}
use Rattle.number.proofs.Laws.{inverse, and_left, and_right}
use Rattle.mask.specs.Mask.{full}
use Rattle.store.specs.Log.{is_abort, perform, wrote_abort}
use Rattle.store.proofs.Laws.{log_cases}
use Rattle.participant.specs.Participant
use Rattle.coordinator.specs.Coordinator
use Rattle.rules.specs.State.{participant_of, log_of}
use Rattle.rules.specs.Report.{outcome_number, outcome_of, known, coordinator_known, learnt, closes, report_byte, outcome_in, closed_in}
use Rattle.rules.specs.Step.{called, take_out, participant_to, coordinator_to, step}
use Rattle.rules.specs.Closed.{ClosedBytesHold, ByteSays}
use Rattle.rules.specs.Types.{LogRecord, None, Yes, Abort, Commit, LogPair, Call, Logged, Participant, RecordingAbort, Transition, Message, Coordinator, Step, Release, Outcome, Report}
use Rattle.rules.proofs.Cases.{answer_cases, coordinator_answer_cases, enters_cases}
use Rattle.rules.proofs.Causes.{Cause, ParticipantCall, CoordinatorCall, idles, starts, delivers, copies, loses, answered, lost, coordinator_answered_lem, coordinator_lost, times_out, crashes, restarts, coordinator_times_out, coordinator_crashes, coordinator_restarts, cause}
use Rattle.rules.proofs.Closed.{to_closed, coordinator_closed, receive_closed}

-- A byte says what was reported

outcome_back : (o : Outcome) → outcome_of (outcome_number o) ≡ o
outcome_back Outcome.Idle = refl
outcome_back Outcome.Moved = refl
outcome_back Outcome.Commit = refl
outcome_back Outcome.Abort = refl

pub outcome_numbers : Inverse outcome_number outcome_of
outcome_numbers = inverse outcome_number outcome_of outcome_back

pub outcome_most : (o : Outcome) → outcome_number o ≤ 3
outcome_most Outcome.Idle = lit≤ tt
outcome_most Outcome.Moved = lit≤ tt
outcome_most Outcome.Commit = lit≤ tt
outcome_most Outcome.Abort = lit≤ tt

byte_back : (o : Outcome) (closed : Bool) → (outcome_in (report_byte o closed) ≡ o) × (closed_in (report_byte o closed) ≡ closed)
byte_back Outcome.Idle true = (refl, refl)
byte_back Outcome.Idle false = (refl, refl)
byte_back Outcome.Moved true = (refl, refl)
byte_back Outcome.Moved false = (refl, refl)
byte_back Outcome.Commit true = (refl, refl)
byte_back Outcome.Commit false = (refl, refl)
byte_back Outcome.Abort true = (refl, refl)
byte_back Outcome.Abort false = (refl, refl)

pub byte_says : ByteSays
byte_says t = byte_back t.outcome t.closed

-- A call that writes an abort into another's log, and is heard, gives its party the decision

-- a participant that hears an abort, and was not recording one, learns it
abbrev Learns : Participant → LogRecord → Transition Participant → Type 0
Learns p r Option.None = Unit {0}
Learns p r (Option.Some (q, x)) = p ≢ RecordingAbort → is_abort r ≡ true → learnt (known p) (known q) ≡ Outcome.Abort

answer_learns : (all i j : ℕ) (p : Participant) (r : LogRecord) → Learns p r (Participant.on_answer all i p j r)
answer_learns all i j p r =
    answer_cases all i j Learns (record {
      none = λ p r. tt;
      vote_yes = λ d e. absurd (false≢true e);
      vote_abort = λ d e. refl;
      close_yes = λ d e. absurd (false≢true e);
      close_abort = λ d e. refl;
      close_commit = λ d e. absurd (false≢true e);
      hear_yes = λ h d e. absurd (false≢true e);
      hear_abort = λ h d e. refl;
      hear_commit = λ h d e. absurd (false≢true e);
      record_commit = λ d e. absurd (false≢true e);
      record_abort = λ d e. absurd (d refl);
    }) p r

-- one that is recording an abort writes no first record

abbrev Unwritten : Option Logged → Type 0
Unwritten Option.None = Unit {0}
Unwritten (Option.Some x) = x.wrote ≡ false

recording_unwritten : (b : Bool) (l : LogPair) → Unwritten (perform (cond b (Option.Some (Call.Log Abort)) Option.None) l)
recording_unwritten true l = log_cases Unwritten Abort l tt refl
recording_unwritten false l = tt

not_recording : (i j : ℕ) (p : Participant) (l : LogPair) (x : Logged) → perform (Participant.pending i p j) l ≡ Option.Some x → x.wrote ≡ true → p ≢ RecordingAbort
not_recording i j p l x q w e =
    let u : Unwritten (perform (Participant.pending i p j) l) =
    subst (λ (z : Participant). Unwritten (perform (Participant.pending i z j) l)) (sym e) (recording_unwritten (eqb j i) l) in
    false≢true (sym (subst Unwritten q u) ∙ w)

-- the coordinator learns it

abbrev CoordinatorLearns : LogRecord → Coordinator → Transition Coordinator → Type 0
CoordinatorLearns r c Option.None = Unit {0}
CoordinatorLearns r c (Option.Some (d, x)) = is_abort r ≡ true → learnt (coordinator_known c) (coordinator_known d) ≡ Outcome.Abort

heard_learns : (all h k : ℕ) (r : LogRecord) → CoordinatorLearns r (Coordinator.Terminating h) (Coordinator.on_heard all k r)
heard_learns all h k None = tt
heard_learns all h k Yes =
    enters_cases (CoordinatorLearns Yes (Coordinator.Terminating h)) (Coordinator.unless_full all k (Coordinator.Terminating k)) (λ e. absurd (false≢true e)) (λ q e. absurd (false≢true e))
    (λ q e. absurd (false≢true e))
heard_learns all h k Abort = λ e. refl
heard_learns all h k Commit = λ e. absurd (false≢true e)

coordinator_answer_learns : (all j : ℕ) (r : LogRecord) (c : Coordinator) → CoordinatorLearns r c (Coordinator.on_answer all c j r)
coordinator_answer_learns all j r c = coordinator_answer_cases (CoordinatorLearns r) all j r (λ c. tt) (λ h. heard_learns all h _ r) c

-- by the outcome of a step with the word

data ClosedBy : Step → Outcome → Type 0 where
  by_heard : {p q : ℕ} → ClosedBy (Step.Call p q) Outcome.Abort
  by_lost : {p q : ℕ} → ClosedBy (Step.CallLost p q) Outcome.Moved

by_same : {s : Step} {o x : Outcome} → ClosedBy s o → x ≡ o → ClosedBy s x
by_same {s} b e = subst (ClosedBy s) (sym e) b

unclosed : {s : Step} {o : Outcome} {b : Bool} → b ≡ false → b ≡ true → ClosedBy s o
unclosed p q = absurd (false≢true (sym p ∙ q))

to_outcome : (i : ℕ) (p : Participant) (x : Option Message) (r : Release) → (participant_to i p x r).outcome ≡ learnt (known (participant_of r i)) (known p)
unfolding participant_to
to_outcome i p x r = refl

coordinator_outcome : (c : Coordinator) (x : Option Message) (r : Release) → (coordinator_to c x r).outcome ≡ learnt (coordinator_known r.coordinator) (coordinator_known c)
unfolding coordinator_to
coordinator_outcome c x r = refl

-- what the word says of the call
wrote_it : (p j : ℕ) (l : Logged) → closes p j l ≡ true → (l.wrote ≡ true) × (is_abort l.answer ≡ true)
wrote_it p j l e = let w = and_left (wrote_abort l) (not (eqb p (suc j))) e in (and_left l.wrote (is_abort l.answer) w, and_right l.wrote (is_abort l.answer) w)

heard_aborts : (r : Release) (i j : ℕ) (l : Logged) (p : Participant) (x : Option Message) → ParticipantCall r i j l p x → closes (suc i) j l ≡ true
    → learnt (known (participant_of r i)) (known p) ≡ Outcome.Abort
heard_aborts r i j l p x a e =
    let w = wrote_it (suc i) j l e in
    subst (Learns (participant_of r i) l.answer) a.answer (answer_learns (full r.n) i j (participant_of r i) l.answer)
    (not_recording i j (participant_of r i) (log_of r j) l a.done w.0) w.1

coordinator_aborts : (r : Release) (j : ℕ) (l : Logged) (c : Coordinator) (x : Option Message) → CoordinatorCall r j l c x → closes 0 j l ≡ true
    → learnt (coordinator_known r.coordinator) (coordinator_known c) ≡ Outcome.Abort
coordinator_aborts r j l c x a e =
    subst (CoordinatorLearns l.answer r.coordinator) a.answer (coordinator_answer_learns (full r.n) j l.answer r.coordinator) (wrote_it 0 j l e).1

caused_by : (r : Release) {s : Step} {t : Report} → Cause r s t → t.closed ≡ true → ClosedBy s t.outcome
caused_by r idles e = unclosed refl e
caused_by r (starts {c} {x} q) e = unclosed (coordinator_closed c x r) e
caused_by r (delivers {m} {i} b) e = unclosed (receive_closed m i (take_out m i r)) e
caused_by r (copies {m} {i} b) e = unclosed (receive_closed m i r) e
caused_by r loses e = unclosed refl e
caused_by r (answered {i} {j} {l} {p} {x} a) e = by_same by_heard (to_outcome i p x (called (suc i) j l.log r) ∙ heard_aborts r i j l p x a e)
caused_by r (lost a) e = by_lost
caused_by r (coordinator_answered_lem {j} {l} {c} {x} a) e = by_same by_heard (coordinator_outcome c x (called 0 j l.log r) ∙ coordinator_aborts r j l c x a e)
caused_by r (coordinator_lost a) e = by_lost
caused_by r (times_out {i} {p} {x} q) e = unclosed (to_closed i p x r) e
caused_by r (crashes {i} {p} {x} q) e = unclosed (to_closed i p x r) e
caused_by r (restarts {i} {p} {x} q) e = unclosed (to_closed i p x r) e
caused_by r (coordinator_times_out {c} {x} q) e = unclosed (coordinator_closed c x r) e
caused_by r (coordinator_crashes {c} {x} q) e = unclosed (coordinator_closed c x r) e
caused_by r (coordinator_restarts {c} {x} q) e = unclosed (coordinator_closed c x r) e

by_call_lem : {s : Step} {o : Outcome} → ClosedBy s o → (p q : ℕ) → s ≡ Step.Call p q → o ≡ Outcome.Abort
by_call_lem by_heard p q e = refl
by_call_lem by_lost p q e = let z : ◌≡◌ {A = ℕ} 0 1 = cc in absurd (omega arith)

by_call_lost : {s : Step} {o : Outcome} → ClosedBy s o → (p q : ℕ) → s ≡ Step.CallLost p q → o ≡ Outcome.Moved
by_call_lost by_heard p q e = let z : ◌≡◌ {A = ℕ} 0 1 = cc in absurd (omega arith)
by_call_lost by_lost p q e = refl

by_none : {s : Step} {o : Outcome} → ClosedBy s o → (o ≢ Outcome.Idle) × (o ≢ Outcome.Commit)
by_none by_heard = (λ e. let z : ◌≡◌ {A = ℕ} 0 1 = cc in omega arith, λ e. let z : ◌≡◌ {A = ℕ} 0 1 = cc in omega arith)
by_none by_lost = (λ e. let z : ◌≡◌ {A = ℕ} 0 1 = cc in omega arith, λ e. let z : ◌≡◌ {A = ℕ} 0 1 = cc in omega arith)

pub closed_bytes : ClosedBytesHold
closed_bytes r s =
    let by : (step r s).closed ≡ true → ClosedBy s (step r s).outcome = caused_by r (cause r s) in
    let says = byte_says (step r s) in
    record {
      heard = λ p q e c. ap₂ report_byte (by_call_lem (by c) p q e) c;
      lost = λ p q e c. ap₂ report_byte (by_call_lost (by c) p q e) c;
      never_4 = λ e. (by_none (by (sym says.1 ∙ ap closed_in e))).0 (sym says.0 ∙ ap outcome_in e);
      never_6 = λ e. (by_none (by (sym says.1 ∙ ap closed_in e))).1 (sym says.0 ∙ ap outcome_in e);
    }
