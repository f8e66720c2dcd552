-- A step has the word `closed` just where request 2026-01 says so, by the logs before and after it. Assumes nothing.
use mathlib.Core.Path.{◌≡◌, refl, sym, ap, subst, ◌∙◌}
use mathlib.Core.Logic.{◌⊎◌, inl, inr}
use mathlib.Core.Bool.{Bool, true, false, false≢true, not, ◌&&◌}
use mathlib.Core.List.{List}
use Prim.Native.Nat.{ℕ, zero, suc, ◌≤◌, ◌<◌}
use native.Mathlib.Nat.{le_trans}
use lib.Dec.{eqb}
use lib.ListN.{length, get_or, set}
use lib.Seq.{get_or-set_same}
use borrow.Author.Tests.{eqb-false, not-true, ne_eqb}
use Rattle.std.specs.Prelude.{Option}
use Rattle.number.proofs.Laws.{and_left, and_right, and_true}
use Rattle.mask.specs.Mask.{full}
use Rattle.store.specs.Log.{empty, is_none, is_abort, perform, wrote_abort}
use Rattle.store.proofs.Laws.{once_cases, log_cases}
use Rattle.participant.specs.Participant
use Rattle.coordinator.specs.Coordinator
use Rattle.rules.specs.State.{participant_of, log_of, first_of}
use Rattle.rules.specs.Report.{closes}
use Rattle.rules.specs.Step.{called, take_out, participant_to, coordinator_to, coordinator_goes, receive, step, is_due}
use Rattle.rules.specs.Closed.{ClosesAnother, ClosedAsWritten}
use Rattle.rules.specs.Types.{LogRecord, None, Yes, Abort, Commit, LogPair, Call, Logged, Participant, Message, Coordinator, Transition, Step, Start, Deliver, Copy, Lose, Timeout, Crash, Restart, Release, Report}
use Rattle.rules.proofs.Bounds.{Bounds, bounds}
use Rattle.rules.proofs.Causes.{Cause, idles, starts, delivers, copies, loses, answered, lost, coordinator_answered_lem, coordinator_lost, times_out, crashes, restarts, coordinator_times_out, coordinator_crashes, coordinator_restarts, cause}
use Rattle.rules.proofs.Actions.{not_due_stays}

-- The word as tests, as the rules have it

-- the log at place j is empty before and abort afterwards, and is not party p's own
abbrev another_closed : ℕ → ℕ → Release → Release → Bool
another_closed p j before after = (is_none (first_of before j) && is_abort (first_of after j)) && not (eqb p (suc j))

abbrev call_closes : ℕ → ℕ → Release → Release → Bool
call_closes p zero before after = false
call_closes p (suc j) before after = another_closed p j before after

abbrev closes_another : Step → Release → Release → Bool
closes_another Start before after = false
closes_another (Deliver m p) before after = false
closes_another (Copy m p) before after = false
closes_another (Lose m p) before after = false
closes_another (Step.Call p q) before after = call_closes p q before after
closes_another (Step.CallLost p q) before after = call_closes p q before after
closes_another (Timeout p) before after = false
closes_another (Crash p) before after = false
closes_another (Restart p) before after = false

-- A call that wrote an abort as the first record, by what it says and by the log

abbrev Says : LogPair → Option Logged → Type 0
Says l Option.None = Unit {0}
Says l (Option.Some x) = wrote_abort x ≡ is_none l.first && is_abort x.log.first

-- a first record that stays is not an abort where there was none
stays : (first : LogRecord) → false ≡ is_none first && is_abort first
stays None = refl
stays Yes = refl
stays Abort = refl
stays Commit = refl

perform_says : (c : Option Call) (l : LogPair) → Says l (perform c l)
perform_says Option.None l = tt
perform_says (Option.Some (Call.LogOnce r)) l = once_cases (λ x. Says l (Option.Some x)) r l (λ e. rw e refl) (stays l.first)
perform_says (Option.Some (Call.Log r)) l = log_cases (Says l) r l tt (stays l.first)

-- a due call of party p on the log at place j, that leaves the log of x in the release t
call_closes_lem : (r t : Release) (p j : ℕ) (c : Option Call) (x : Logged) → perform c (log_of r j) ≡ Option.Some x → j < length r.store.logs
    → t.store.logs ≡ set r.store.logs j x.log → closes p j x ≡ another_closed p j r t
call_closes_lem r t p j c x q room e =
    let at : log_of t j ≡ x.log = ap (λ (l : List LogPair). get_or l j empty) e ∙ get_or-set_same r.store.logs j x.log empty room in
    let says : wrote_abort x ≡ is_none (first_of r j) && is_abort x.log.first = rw q at (perform_says c (log_of r j)) in
    ap (λ b. b && not (eqb p (suc j))) (says ∙ ap (λ (l : LogPair). is_none (first_of r j) && is_abort l.first) (sym at))

-- A party that goes to a state leaves the logs, and closes none

to_logs : (i : ℕ) (p : Participant) (s : Option Message) (r : Release) → (participant_to i p s r).next.store.logs ≡ r.store.logs
unfolding participant_to
to_logs i p Option.None r = refl
to_logs i p (Option.Some m) r = refl

coordinator_logs : (c : Coordinator) (s : Option Message) (r : Release) → (coordinator_to c s r).next.store.logs ≡ r.store.logs
unfolding coordinator_to
coordinator_logs c Option.None r = refl
coordinator_logs c (Option.Some m) r = refl

pub to_closed : (i : ℕ) (p : Participant) (s : Option Message) (r : Release) → (participant_to i p s r).closed ≡ false
unfolding participant_to
to_closed i p s r = refl

pub coordinator_closed : (c : Coordinator) (s : Option Message) (r : Release) → (coordinator_to c s r).closed ≡ false
unfolding coordinator_to
coordinator_closed c s r = refl

goes_closed : (t : Transition Coordinator) (r : Release) → (coordinator_goes t r).closed ≡ false
goes_closed Option.None r = refl
goes_closed (Option.Some (c, s)) r = coordinator_closed c s r

pub receive_closed : (m : Message) (i : ℕ) (r : Release) → (receive m i r).closed ≡ false
receive_closed Message.Request i r = to_closed i _ Option.None r
receive_closed Message.ReplyYes i r = goes_closed (Coordinator.on_reply_yes (full r.n) i r.coordinator) r
receive_closed Message.ReplyAbort i r = goes_closed (Coordinator.on_reply_abort r.coordinator) r
receive_closed Message.Commit i r = to_closed i _ Option.None r
receive_closed Message.Abort i r = to_closed i _ Option.None r

-- The word, by the logs

-- a step that leaves the release as it was
none_closes : (p q : ℕ) (r : Release) → false ≡ closes_another (Step.Call p q) r r
none_closes p zero r = refl
none_closes p (suc j) r = ap (λ b. b && not (eqb p (suc j))) (stays (first_of r j))

idle_closes : (r : Release) (s : Step) → false ≡ closes_another s r r
idle_closes r Start = refl
idle_closes r (Deliver m p) = refl
idle_closes r (Copy m p) = refl
idle_closes r (Lose m p) = refl
idle_closes r (Step.Call p q) = none_closes p q r
idle_closes r (Step.CallLost p q) = none_closes p q r
idle_closes r (Timeout p) = refl
idle_closes r (Crash p) = refl
idle_closes r (Restart p) = refl

caused_closes : (r : Release) {s : Step} {t : Report} → Cause r s t → Bounds r.n s → r.n ≤ length r.store.logs → t.closed ≡ closes_another s r t.next
caused_closes r (idles {s}) h room = idle_closes r s
caused_closes r (starts {c} {x} q) h room = coordinator_closed c x r
caused_closes r (delivers {m} {i} b) h room = receive_closed m i (take_out m i r)
caused_closes r (copies {m} {i} b) h room = receive_closed m i r
caused_closes r loses h room = refl
caused_closes r (answered {i} {j} {l} {p} {x} a) h room =
    call_closes_lem r (participant_to i p x (called (suc i) j l.log r)).next (suc i) j (Participant.pending i (participant_of r i) j) l a.done (le_trans h.2 room)
    (to_logs i p x (called (suc i) j l.log r))
caused_closes r (lost {i} {j} {l} a) h room =
    call_closes_lem r (called (suc i) j l.log r) (suc i) j (Participant.pending i (participant_of r i) j) l a.done (le_trans h.2 room) refl
caused_closes r (coordinator_answered_lem {j} {l} {c} {x} a) h room =
    call_closes_lem r (coordinator_to c x (called 0 j l.log r)).next 0 j (Coordinator.pending r.coordinator j) l a.done (le_trans h.2 room)
    (coordinator_logs c x (called 0 j l.log r))
caused_closes r (coordinator_lost {j} {l} a) h room =
    call_closes_lem r (called 0 j l.log r) 0 j (Coordinator.pending r.coordinator j) l a.done (le_trans h.2 room) refl
caused_closes r (times_out {i} {p} {x} q) h room = to_closed i p x r
caused_closes r (crashes {i} {p} {x} q) h room = to_closed i p x r
caused_closes r (restarts {i} {p} {x} q) h room = to_closed i p x r
caused_closes r (coordinator_times_out {c} {x} q) h room = coordinator_closed c x r
caused_closes r (coordinator_crashes {c} {x} q) h room = coordinator_closed c x r
caused_closes r (coordinator_restarts {c} {x} q) h room = coordinator_closed c x r

-- The tests, and the words of the request

is_none_lem : (x : LogRecord) → is_none x ≡ true → x ≡ None
is_none_lem None e = refl
is_none_lem Yes e = absurd (false≢true e)
is_none_lem Abort e = absurd (false≢true e)
is_none_lem Commit e = absurd (false≢true e)

is_abort_lem : (x : LogRecord) → is_abort x ≡ true → x ≡ Abort
is_abort_lem None e = absurd (false≢true e)
is_abort_lem Yes e = absurd (false≢true e)
is_abort_lem Abort e = refl
is_abort_lem Commit e = absurd (false≢true e)

module _ (r t : Release) where
  -- a call, whether its answer is heard or lost
  call_said : (s : Step) (p q : ℕ) → is_due r s ≡ true → call_closes p q r t ≡ true
      → ((j : ℕ) → q ≡ suc j → (s ≡ Step.Call p (suc j)) ⊎ (s ≡ Step.CallLost p (suc j))) → ClosesAnother r s t
  call_said s p zero due e call = absurd (false≢true e)
  call_said s p (suc j) due e call =
      let logs : is_none (first_of r j) && is_abort (first_of t j) ≡ true = and_left (is_none (first_of r j) && is_abort (first_of t j)) (not (eqb p (suc j))) e in
      let other : not (eqb p (suc j)) ≡ true = and_right (is_none (first_of r j) && is_abort (first_of t j)) (not (eqb p (suc j))) e in
      record {
        party = p;
        place = j;
        call = call j refl;
        due = due;
        another = eqb-false p (suc j) (not-true (eqb p (suc j)) other);
        before = is_none_lem (first_of r j) (and_left (is_none (first_of r j)) (is_abort (first_of t j)) logs);
        after = is_abort_lem (first_of t j) (and_right (is_none (first_of r j)) (is_abort (first_of t j)) logs);
      }

  said : (s : Step) → is_due r s ≡ true → closes_another s r t ≡ true → ClosesAnother r s t
  said Start due e = absurd (false≢true e)
  said (Deliver m p) due e = absurd (false≢true e)
  said (Copy m p) due e = absurd (false≢true e)
  said (Lose m p) due e = absurd (false≢true e)
  said (Step.Call p q) due e = call_said (Step.Call p q) p q due e (λ j k. inl (ap (Step.Call p) k))
  said (Step.CallLost p q) due e = call_said (Step.CallLost p q) p q due e (λ j k. inr (ap (Step.CallLost p) k))
  said (Timeout p) due e = absurd (false≢true e)
  said (Crash p) due e = absurd (false≢true e)
  said (Restart p) due e = absurd (false≢true e)

  tested : (s : Step) → ClosesAnother r s t → closes_another s r t ≡ true
  tested s x = go x.call
    where
      logs : another_closed x.party x.place r t ≡ true
      logs = and_true _ _ (and_true _ _ (ap is_none x.before) (ap is_abort x.after)) (ap not (ne_eqb x.party (suc x.place) x.another))

      go : (s ≡ Step.Call x.party (suc x.place)) ⊎ (s ≡ Step.CallLost x.party (suc x.place)) → closes_another s r t ≡ true
      go (inl e) = subst (λ (z : Step). closes_another z r t ≡ true) (sym e) logs
      go (inr e) = subst (λ (z : Step). closes_another z r t ≡ true) (sym e) logs

-- a step that closes a log is due
closed_due : (r : Release) (s : Step) (b : Bool) → is_due r s ≡ b → (step r s).closed ≡ true → b ≡ true
closed_due r s true d e = refl
closed_due r s false d e = absurd (false≢true (sym (ap (λ (t : Report). t.closed) (not_due_stays r s d)) ∙ e))

pub closed_as_written : ClosedAsWritten
closed_as_written r s room h =
    let same : (step r s).closed ≡ closes_another s r (step r s).next = caused_closes r (cause r s) (bounds r.n s h) room in
    (λ e. said r (step r s).next s (closed_due r s (is_due r s) refl e) (sym same ∙ e), λ x. same ∙ tested r (step r s).next s x)
