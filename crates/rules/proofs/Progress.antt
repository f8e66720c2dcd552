-- Demand 3, second part: each answered call of an undisturbed participant lowers its rank, and nothing else raises it. Assumes nothing.
use mathlib.Core.Path.{◌≡◌, refl, ◌∙◌, ap}
use mathlib.Core.List.{List, [], ◌∷◌}
use mathlib.Core.Bool.{Bool, true, false, cond, ◌&&◌}
use Prim.Native.Nat.{ℕ, zero, suc, ◌+◌, ◌≤◌, ◌<◌}
use native.Mathlib.Omega.{arith}
use native.Mathlib.Nat.{le_trans, le_refl}
use native.Mathlib.Decide.{ℕ_discrete}
use lib.Dec.{eqb-zero-suc}
use borrow.Author.Tests.{ne_eqb}
use Rattle.std.specs.Prelude.{Option}
use Rattle.kind.specs.Step.{AllInRange}
use Rattle.mask.specs.Mask.{has, full}
use Rattle.participant.specs.Participant
use Rattle.coordinator.specs.Coordinator
use Rattle.rules.specs.State.{participant_of, first_of, waiting}
use Rattle.rules.specs.Report.{moves}
use Rattle.rules.specs.Step.{called, take_out, reply, participant_to, coordinator_to, coordinator_goes, receive, step}
use Rattle.rules.specs.Run.{after}
use Rattle.rules.specs.Demand.{is_call_of, answered, AllUndisturbed}
use Rattle.rules.specs.Types.{Logged, Participant, Terminating, Site, Message, Decision, Coordinator, Transition, Step, Start, Deliver, Copy, Timeout, Crash, Restart, Outcome, Release, Report}
use Rattle.rules.proofs.FirstRecords.{true_false}
use Rattle.rules.proofs.Invariant.{Inv}
use Rattle.rules.proofs.Updates.{set_all, Good, take_out_inv}
use Rattle.rules.proofs.Ranges.{Guard}
use Rattle.rules.proofs.Bounds.{Bounds, bounds}
use Rattle.rules.proofs.Causes.{ParticipantCall, Cause, idles, starts, delivers, copies, loses, answered as call-answered, lost, coordinator_answered_lem, coordinator_lost, times_out, crashes, restarts, coordinator_times_out, coordinator_crashes, coordinator_restarts, cause}
use Rattle.rules.proofs.Safety.{call_guard, step_good}
use Rattle.rules.proofs.Rank.{rank, request_rank, decision_rank, timeout_rank, restart_rank, answer_rank, guarded_rank}
use Rattle.rules.proofs.Due.{participant_due}
use Rattle.rules.proofs.Actions.{participant_goes_to}

-- the participants after one of them went to p

reply_sites : (s : Option Message) (i : ℕ) (r : Release) → (reply s i r).sites ≡ r.sites
reply_sites Option.None i r = refl
reply_sites (Option.Some m) i r = refl

pub entered : (P : Participant → Type 0) (r : Release) (k i : ℕ) (p : Participant) (s : Option Message)
    → P (participant_of r i) → (k ≡ i → P p) → P (participant_of (participant_to k p s r).next i)
unfolding participant_to
entered P r k i p s old new =
    rw (reply_sites s k r)
    (set_all (λ (j : ℕ) (x : Site). j ≡ i → P x.participant) r.sites k (record { participant = p }) waiting (λ j q. rw q old) new i refl)

-- the coordinator moves no participant

pub coordinator_sites : (c : Coordinator) (s : Option Message) (r : Release) → (coordinator_to c s r).next.sites ≡ r.sites
unfolding coordinator_to
coordinator_sites c Option.None r = refl
coordinator_sites c (Option.Some m) r = refl

pub coordinator_goes_sites : (t : Transition Coordinator) (r : Release) → (coordinator_goes t r).next.sites ≡ r.sites
coordinator_goes_sites Option.None r = refl
coordinator_goes_sites (Option.Some (c, s)) r = coordinator_sites c s r

-- no step raises the rank of an undisturbed participant i

module _ (r : Release) (i : ℕ) where
  abbrev now : ℕ
  now = rank r.n (participant_of r i)

  abbrev Falls : Report → Type 0
  Falls t = rank r.n (participant_of t.next i) ≤ now

  enter_falls : (k : ℕ) (p : Participant) (s : Option Message) → (k ≡ i → rank r.n p ≤ now) → Falls (participant_to k p s r)
  enter_falls k p s h = entered (λ x. rank r.n x ≤ now) r k i p s (le_refl now) h

  still_falls : (t : Report) → t.next.sites ≡ r.sites → Falls t
  still_falls t q = rw q (le_refl now)

-- messages

receive_falls : (r : Release) (i : ℕ) → i < r.n → Inv r → (m : Message) (k : ℕ) → Falls r i (receive m k r)
receive_falls r i h v Message.Request k =
    enter_falls r i k (Participant.on_request (has k r.votes) (participant_of r k)) Option.None (λ q. rw q (request_rank r.n i h (has i r.votes) (participant_of r i)))
receive_falls r i h v Message.ReplyYes k =
    still_falls r i (receive Message.ReplyYes k r) (coordinator_goes_sites (Coordinator.on_reply_yes (full r.n) k r.coordinator) r)
receive_falls r i h v Message.ReplyAbort k =
    still_falls r i (receive Message.ReplyAbort k r) (coordinator_goes_sites (Coordinator.on_reply_abort r.coordinator) r)
receive_falls r i h v Message.Commit k =
    enter_falls r i k (Participant.on_decision Decision.Commit (participant_of r k)) Option.None
    (λ q. rw q (decision_rank r.n i h (first_of r) Decision.Commit (participant_of r i) (v.knows i h)))
receive_falls r i h v Message.Abort k =
    enter_falls r i k (Participant.on_decision Decision.Abort (participant_of r k)) Option.None
    (λ q. rw q (decision_rank r.n i h (first_of r) Decision.Abort (participant_of r i) (v.knows i h)))

-- what an undisturbed participant's rank loses to a step

abbrev counted : ℕ → Step → Outcome → ℕ
counted i s o = cond (is_call_of i s && moves o) 1 0

counted_le : (b : Bool) → cond b 1 0 ≤ 1
counted_le true = omega arith
counted_le false = omega arith

abbrev Loses : Release → ℕ → Step → Report → Type 0
Loses r i s t = counted i s t.outcome + rank r.n (participant_of t.next i) ≤ rank r.n (participant_of r i)

-- by a step that is no answered call of its own
free : (r : Release) (i : ℕ) (s : Step) (t : Report) → is_call_of i s ≡ false → Falls r i t → Loses r i s t
free r i s t q f = rw q (omega arith)

coordinator_free : (r r' : Release) (i : ℕ) (s : Step) (c : Coordinator) (x : Option Message) → is_call_of i s ≡ false → r'.sites ≡ r.sites
    → Loses r i s (coordinator_to c x r')
coordinator_free r r' i s c x q e = free r i s (coordinator_to c x r') q (still_falls r i (coordinator_to c x r') (coordinator_sites c x r' ∙ e))

call_loses : (r : Release) (i k j : ℕ) (l : Logged) (p : Participant) (x : Option Message) → i < r.n → k < r.n → j < r.n → Inv r → ParticipantCall r k j l p x → Dec (k ≡ i)
    → Loses r i (Step.Call (suc k) (suc j)) (participant_to k p x (called (suc k) j l.log r))
call_loses r i k j l p x hi hk hj v a (no ne) =
    free r i (Step.Call (suc k) (suc j)) (participant_to k p x (called (suc k) j l.log r)) (ne_eqb (suc k) (suc i) (λ e. ne (omega arith)))
    (enter_falls (called (suc k) j l.log r) i k p x (λ e. absurd (ne e)))
call_loses r i k j l p x hi hk hj v a (yes e) = rw (← e) (go (rank r.n (participant_of r k)) refl)
  where
    g : Guard k (participant_of r k) j
    g = call_guard r k j l hk hj v a.done

    go : (c : ℕ) → rank r.n (participant_of r k) ≡ c → Loses r k (Step.Call (suc k) (suc j)) (participant_to k p x (called (suc k) j l.log r))
    go zero q = absurd (omega (arith, guarded_rank r.n k hk (first_of r) (participant_of r k) j hj g (v.knows k hk)))
    go (suc c) q =
        let lower : rank r.n p ≤ c = rw a.answer at (answer_rank r.n k hk (first_of r) (participant_of r k) j c l.answer hj g (v.knows k hk) q) in
        rw ((participant_goes_to k p x (called (suc k) j l.log r)).state (le_trans hk v.sites_room))
        (omega (arith, counted_le (is_call_of k (Step.Call (suc k) (suc j)) && moves (participant_to k p x (called (suc k) j l.log r)).outcome)))

-- the conditions, of a step with outcome o
record Quiet (i : ℕ) (r : Release) (s : Step) (o : Outcome) : Type 0 where
  crash : s ≡ Crash (suc i) → moves o ≡ false
  timeout : (h : ℕ) → s ≡ Timeout (suc i) → participant_of r i ≡ Terminating h → moves o ≡ false

caused_loses : (r : Release) (i : ℕ) {s : Step} {t : Report} → Cause r s t → i < r.n → Bounds r.n s → Inv r → Quiet i r s t.outcome → Loses r i s t
caused_loses r i (idles {s}) h g v c = idle_loses (is_call_of i s)
  where
    idle_loses : (b : Bool) → cond (b && false) 1 0 + rank r.n (participant_of r i) ≤ rank r.n (participant_of r i)
    idle_loses true = omega arith
    idle_loses false = omega arith
caused_loses r i (starts {c = d} {x} q) h g v c = coordinator_free r r i Start d x refl refl
caused_loses r i (delivers {m} {i = k} b) h g v c =
    free r i (Deliver m (suc k)) (receive m k (take_out m k r)) refl (receive_falls (take_out m k r) i h (take_out_inv r m k v) m k)
caused_loses r i (copies {m} {i = k} b) h g v c = free r i (Copy m (suc k)) (receive m k r) refl (receive_falls r i h v m k)
caused_loses r i (loses {m} {i = k}) h g v c = omega arith
caused_loses r i (call-answered {i = k} {j} {l} {p} {x} a) h g v c = call_loses r i k j l p x h g.0 g.2 v a (ℕ_discrete k i)
caused_loses r i (lost {i = k} {j} {l} a) h g v c = omega arith
caused_loses r i (coordinator_answered_lem {j} {l} {c = d} {x} a) h g v c =
    coordinator_free r (called 0 j l.log r) i (Step.Call zero (suc j)) d x (eqb-zero-suc i) refl
caused_loses r i (coordinator_lost {j} {l} a) h g v c = omega arith
caused_loses r i (times_out {i = k} {p} {x} q) h g v c =
    free r i (Timeout (suc k)) (participant_to k p x r) refl (enter_falls r i k p x lower)
  where
    lower : k ≡ i → rank r.n p ≤ rank r.n (participant_of r i)
    lower e =
        let q' : Participant.on_timeout (full r.n) i (participant_of r i) ≡ Option.Some (p, x) = rw e at q in
        rw q' at (timeout_rank r.n i h (participant_of r i) (λ m y. true_false (participant_due k p x r) (c.timeout m (ap (λ (z : ℕ). Timeout (suc z)) e) y)))
caused_loses r i (crashes {i = k} {p} {x} q) h g v c =
    free r i (Crash (suc k)) (participant_to k p x r) refl
    (enter_falls r i k p x (λ e. absurd (true_false (participant_due k p x r) (c.crash (ap (λ (z : ℕ). Crash (suc z)) e)))))
caused_loses r i (restarts {i = k} {p} {x} q) h g v c = free r i (Restart (suc k)) (participant_to k p x r) refl (enter_falls r i k p x lower)
  where
    lower : k ≡ i → rank r.n p ≤ rank r.n (participant_of r i)
    lower e =
        let q' : Participant.on_restart (participant_of r i) ≡ Option.Some (p, x) = rw e at q in
        rw q' at (restart_rank r.n i h (participant_of r i))
caused_loses r i (coordinator_times_out {c = d} {x} q) h g v c = coordinator_free r r i (Timeout zero) d x refl refl
caused_loses r i (coordinator_crashes {c = d} {x} q) h g v c = coordinator_free r r i (Crash zero) d x refl refl
caused_loses r i (coordinator_restarts {c = d} {x} q) h g v c = coordinator_free r r i (Restart zero) d x refl refl

-- over a list
pub progress : (r : Release) (i : ℕ) (ss : List Step) → i < r.n → AllInRange r.n ss → Inv r → AllUndisturbed i r ss
    → answered i r ss + rank r.n (participant_of (after r ss) i) ≤ rank r.n (participant_of r i)
progress r i [] h g v c = omega arith
progress r i (s ∷ ss) h g v c =
    let k : Good r (step r s) = step_good r s g.0 v in
    let below : answered i (step r s).next ss + rank r.n (participant_of (after (step r s).next ss) i) ≤ rank r.n (participant_of (step r s).next i) =
    rw k.same_n at (progress (step r s).next i ss (rw k.same_n h) (rw k.same_n g.1) k.inv c.1) in
    omega (arith, caused_loses r i (cause r s) h (bounds r.n s g.0) v (record { crash = c.0.crash; timeout = c.0.timeout }))
