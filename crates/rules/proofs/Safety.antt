-- Every step keeps the invariant, and its report is true. Assumes nothing.
use mathlib.Core.Path.{◌≡◌, refl, sym, ◌∙◌, ap}
use mathlib.Core.Bool.{Bool, true}
use Prim.Native.Nat.{ℕ, suc, ◌<◌}
use Rattle.std.specs.Prelude.{Option}
use Rattle.mask.specs.Mask.{has, full}
use Rattle.store.specs.Log.{perform}
use Rattle.store.proofs.Laws.{perform_answers}
use Rattle.participant.specs.Participant
use Rattle.coordinator.specs.Coordinator
use Rattle.rules.specs.State.{participant_of, log_of, first_of, last_of}
use Rattle.rules.specs.Report.{with_closed}
use Rattle.rules.specs.Step.{called, take_out, moved, participant_to, participant_goes, coordinator_to, coordinator_goes, receive, step}
use Rattle.kind.specs.Step.{in_range}
use Rattle.rules.specs.Types.{LogRecord, LogPair, Call, Logged, Participant, Message, Decision, Transition, Step, Release, Report, Coordinator}
use Rattle.rules.proofs.FirstRecords.{still, Keeps, keeps_refl, keeps_trans}
use Rattle.rules.proofs.Invariant.{Tells, Inv, participant_claim, coordinator_claim}
use Rattle.rules.proofs.Updates.{take_out_inv, Change, called_at, called_keeps, called_inv, Good, idle_good, participant_good, coordinator_good}
use Rattle.rules.proofs.Ranges.{Guard}
use Rattle.rules.proofs.Calls.{Says, says, Pends, CallFits, perform_fits, pending_fits, coordinator_pending_fits}
use Rattle.rules.proofs.Transitions.{Stands, Fits, CoordinatorFits, request_stands, decision_stands, timeout_fits, crash_fits, restart_fits, answer_fits, start_fits, reply_yes_fits, reply_abort_fits, coordinator_timeout_fits, coordinator_crash_fits, coordinator_restart_fits, coordinator_answer_fits}
use Rattle.rules.proofs.Bounds.{Bounds, bounds}
use Rattle.rules.proofs.Causes.{Cause, idles, starts, delivers, copies, loses, answered, lost, coordinator_answered_lem, coordinator_lost, times_out, crashes, restarts, coordinator_times_out, coordinator_crashes, coordinator_restarts, cause}

moved_good : (r s : Release) → Inv s → s.n ≡ r.n → Keeps (log_of r) (log_of s) → Good r (moved s)
moved_good r s v w k = record { inv = v; same_n = w; keeps = k; backed = tt }

-- a report after an update that leaves n alone
after_good : (r s : Release) (t : Report) → s.n ≡ r.n → Keeps (log_of r) (log_of s) → Good s t → Good r t
after_good r s t w k g = record { inv = g.inv; same_n = g.same_n ∙ w; keeps = keeps_trans k g.keeps; backed = g.backed }

goes_good : (r : Release) (i : ℕ) (t : Transition Participant) → Inv r → Fits r.n (first_of r) i (last_of r i) t → Good r (participant_goes i t r)
goes_good r i Option.None v f = idle_good r v
goes_good r i (Option.Some (p, s)) v f = participant_good r i p s v f.0.knows f.0.ends f.1

coordinator_goes_good : (r : Release) (t : Transition Coordinator) → Inv r → CoordinatorFits r.n (first_of r) t → Good r (coordinator_goes t r)
coordinator_goes_good r Option.None v f = idle_good r v
coordinator_goes_good r (Option.Some (c, s)) v f = coordinator_good r c s v f.0 f.1

-- messages

module _ (r : Release) (i : ℕ) (h : i < r.n) (v : Inv r) where
  -- participant i as it stands
  stands : Stands r.n (first_of r) i (last_of r i) (participant_of r i)
  stands = record { knows = v.knows i h; ends = v.ends i h }

  stands_good : (p : Participant) → Stands r.n (first_of r) i (last_of r i) p → Good r (participant_to i p Option.None r)
  stands_good p s = participant_good r i p Option.None v s.knows s.ends tt

  pub receive_good : (m : Message) → Tells r.n (first_of r) i m → Good r (receive m i r)
  receive_good Message.Request t =
      stands_good (Participant.on_request (has i r.votes) (participant_of r i)) (request_stands r.n (first_of r) i (last_of r i) (has i r.votes) (participant_of r i) stands)
  receive_good Message.ReplyYes t =
      coordinator_goes_good r (Coordinator.on_reply_yes (full r.n) i r.coordinator) v (reply_yes_fits r.n (first_of r) i r.coordinator t v.coordinator_knows)
  receive_good Message.ReplyAbort t =
      coordinator_goes_good r (Coordinator.on_reply_abort r.coordinator) v (reply_abort_fits r.n (first_of r) r.coordinator t v.coordinator_knows)
  receive_good Message.Commit t =
      stands_good (Participant.on_decision Decision.Commit (participant_of r i)) (decision_stands r.n (first_of r) i (last_of r i) Decision.Commit t (participant_of r i) stands)
  receive_good Message.Abort t =
      stands_good (Participant.on_decision Decision.Abort (participant_of r i)) (decision_stands r.n (first_of r) i (last_of r i) Decision.Abort t (participant_of r i) stands)

-- calls

-- what log j says after a due call on it
called_says : (r : Release) (p j : ℕ) (l : LogPair) → Inv r → j < r.n → Change r.n (first_of r) (participant_of r j) (log_of r j) l
    → Says r.n (first_of (called p j l r)) j l.last
called_says r p j l v h ch =
    let w : Inv (called p j l r) = called_inv r p j l v ch in
    let at : log_of (called p j l r) j ≡ l = called_at r p j l v h in
    rw at at (says r.n (first_of (called p j l r)) j h (log_of (called p j l r) j).first (log_of (called p j l r) j).last refl (w.pairs j h))

-- the call that is pending, and the guard under which it is
abbrev pub Guarded : Type 0 → Option Logged → Type 0
Guarded G Option.None = Unit {0}
Guarded G (Option.Some x) = G

guarded : (G : Type 0) (p : Option Logged) → G → Guarded G p
guarded G Option.None g = tt
guarded G (Option.Some x) g = g

perform_guarded : (n : ℕ) (F : ℕ → LogRecord) (P : ℕ → Participant) (i : ℕ) (p : Participant) (j : ℕ) (c : Option Call) (l : LogPair)
    → Pends n F P i p j c → Guarded (Guard i p j) (perform c l)
perform_guarded n F P i p j Option.None l h = tt
perform_guarded n F P i p j (Option.Some (Call.LogOnce r)) l h = h.1
perform_guarded n F P i p j (Option.Some (Call.Log r)) l h = guarded (Guard i p j) (perform (Option.Some (Call.Log r)) l) h.1

pends_fits : (n : ℕ) (F : ℕ → LogRecord) (P : ℕ → Participant) (i : ℕ) (p : Participant) (j : ℕ) (c : Option Call) → Pends n F P i p j c → CallFits n F j (P j) c
pends_fits n F P i p j Option.None h = tt
pends_fits n F P i p j (Option.Some (Call.LogOnce r)) h = h.0
pends_fits n F P i p j (Option.Some (Call.Log r)) h = h.0

-- a due call of participant i on log j
module _ (r : Release) (i j : ℕ) (x : Logged) (hi : i < r.n) (hj : j < r.n) (v : Inv r)
    (q : perform (Participant.pending i (participant_of r i) j) (log_of r j) ≡ Option.Some x) where
  pends : Pends r.n (first_of r) (participant_of r) i (participant_of r i) j (Participant.pending i (participant_of r i) j)
  pends = pending_fits r.n (first_of r) (participant_of r) i j (participant_of r i) refl (v.knows i hi)

  pub call_guard : Guard i (participant_of r i) j
  call_guard =
      rw q at (perform_guarded r.n (first_of r) (participant_of r) i (participant_of r i) j (Participant.pending i (participant_of r i) j) (log_of r j) pends)

  call_change : Change r.n (first_of r) (participant_of r j) (log_of r j) x.log
  call_change =
      rw q at (perform_fits r.n (first_of r) (participant_of r j) j (Participant.pending i (participant_of r i) j) (log_of r j)
      (pends_fits r.n (first_of r) (participant_of r) i (participant_of r i) j (Participant.pending i (participant_of r i) j) pends) (v.pairs j hj) (v.ends j hj))

  abbrev left : Release
  left = called (suc i) j x.log r

  answer_last : x.answer ≡ x.log.last
  answer_last = rw q at (perform_answers (Participant.pending i (participant_of r i) j) (log_of r j))

  call_fits : Fits r.n (first_of left) i (last_of left i) (Participant.on_answer (full r.n) i (participant_of r i) j x.answer)
  call_fits =
      answer_fits r.n (first_of left) i (last_of left i) (participant_of r i) j x.answer
      (λ e. ap (λ (k : ℕ). last_of left k) (sym e) ∙ ap (λ (l : LogPair). l.last) (called_at r (suc i) j x.log v hj) ∙ sym answer_last)
      call_guard (rw answer_last (called_says r (suc i) j x.log v hj call_change))
      (still r.n (called_keeps r (suc i) j x.log call_change.keep) (participant_claim i (participant_of r i)) (v.knows i hi))

-- a due call of the coordinator on log j
module _ (r : Release) (j : ℕ) (x : Logged) (hj : j < r.n) (v : Inv r)
    (q : perform (Coordinator.pending r.coordinator j) (log_of r j) ≡ Option.Some x) where
  coordinator_change : Change r.n (first_of r) (participant_of r j) (log_of r j) x.log
  coordinator_change =
      rw q at (perform_fits r.n (first_of r) (participant_of r j) j (Coordinator.pending r.coordinator j) (log_of r j)
      (coordinator_pending_fits r.n (first_of r) (participant_of r j) j r.coordinator) (v.pairs j hj) (v.ends j hj))

  coordinator_answer_last : x.answer ≡ x.log.last
  coordinator_answer_last = rw q at (perform_answers (Coordinator.pending r.coordinator j) (log_of r j))

  coordinator_call_fits : CoordinatorFits r.n (first_of (called 0 j x.log r)) (Coordinator.on_answer (full r.n) r.coordinator j x.answer)
  coordinator_call_fits =
      coordinator_answer_fits r.n (first_of (called 0 j x.log r)) r.coordinator j x.answer
      (rw coordinator_answer_last (called_says r 0 j x.log v hj coordinator_change))
      (still r.n (called_keeps r 0 j x.log coordinator_change.keep) (coordinator_claim r.coordinator) v.coordinator_knows)

-- a due call is made, and what follows is good, whether or not the log was closed by it
called_good : (r : Release) (p j : ℕ) (l : LogPair) (closed : Bool) (t : Report) → Inv r → Change r.n (first_of r) (participant_of r j) (log_of r j) l
    → (Inv (called p j l r) → Good (called p j l r) t) → Good r (with_closed closed t)
called_good r p j l closed t v ch g =
    let x = after_good r (called p j l r) t refl (called_keeps r p j l ch.keep) (g (called_inv r p j l v ch)) in
    record { inv = x.inv; same_n = x.same_n; keeps = x.keeps; backed = x.backed }

caused_good : (r : Release) {s : Step} {t : Report} → Cause r s t → Bounds r.n s → Inv r → Good r t
caused_good r idles h v = idle_good r v
caused_good r (starts {c} {x} q) h v = coordinator_goes_good r (Option.Some (c, x)) v (rw q at (start_fits r.n (first_of r) r.coordinator))
caused_good r (delivers {m} {i} b) h v =
    after_good r (take_out m i r) (receive m i (take_out m i r)) refl (keeps_refl (log_of r))
    (receive_good (take_out m i r) i h.1 (take_out_inv r m i v) m (v.tells m i h.1 b))
caused_good r (copies {m} {i} b) h v = receive_good r i h.1 v m (v.tells m i h.1 b)
caused_good r (loses {m} {i}) h v = moved_good r (take_out m i r) (take_out_inv r m i v) refl (keeps_refl (log_of r))
caused_good r (answered {i} {j} {l} {p} {x} a) h v =
    called_good r (suc i) j l.log _ (participant_to i p x (called (suc i) j l.log r)) v (call_change r i j l h.0 h.2 v a.done)
    (λ w. goes_good (called (suc i) j l.log r) i (Option.Some (p, x)) w (rw a.answer at (call_fits r i j l h.0 h.2 v a.done)))
caused_good r (lost {i} {j} {l} a) h v =
    called_good r (suc i) j l.log _ (moved (called (suc i) j l.log r)) v (call_change r i j l h.0 h.2 v a.done) (λ w. moved_good _ _ w refl (keeps_refl _))
caused_good r (coordinator_answered_lem {j} {l} {c} {x} a) h v =
    called_good r 0 j l.log _ (coordinator_to c x (called 0 j l.log r)) v (coordinator_change r j l h.2 v a.done)
    (λ w. coordinator_goes_good (called 0 j l.log r) (Option.Some (c, x)) w (rw a.answer at (coordinator_call_fits r j l h.2 v a.done)))
caused_good r (coordinator_lost {j} {l} a) h v =
    called_good r 0 j l.log _ (moved (called 0 j l.log r)) v (coordinator_change r j l h.2 v a.done) (λ w. moved_good _ _ w refl (keeps_refl _))
caused_good r (times_out {i} {p} {x} q) h v =
    goes_good r i (Option.Some (p, x)) v (rw q at (timeout_fits r.n (first_of r) i (last_of r i) (participant_of r i) (v.knows i h)))
caused_good r (crashes {i} {p} {x} q) h v = goes_good r i (Option.Some (p, x)) v (rw q at (crash_fits r.n (first_of r) i (last_of r i) (participant_of r i)))
caused_good r (restarts {i} {p} {x} q) h v = goes_good r i (Option.Some (p, x)) v (rw q at (restart_fits r.n (first_of r) i (last_of r i) (participant_of r i)))
caused_good r (coordinator_times_out {c} {x} q) h v =
    coordinator_goes_good r (Option.Some (c, x)) v (rw q at (coordinator_timeout_fits r.n (first_of r) r.coordinator))
caused_good r (coordinator_crashes {c} {x} q) h v =
    coordinator_goes_good r (Option.Some (c, x)) v (rw q at (coordinator_crash_fits r.n (first_of r) r.coordinator))
caused_good r (coordinator_restarts {c} {x} q) h v =
    coordinator_goes_good r (Option.Some (c, x)) v (rw q at (coordinator_restart_fits r.n (first_of r) r.coordinator))

pub step_good : (r : Release) (s : Step) → in_range r.n s ≡ true → Inv r → Good r (step r s)
step_good r s h v = caused_good r (cause r s) (bounds r.n s h) v
