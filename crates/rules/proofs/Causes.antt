-- What a step does: its case, with the tests that led there. Each part of demand 3 goes by these cases. Assumes nothing.
use mathlib.Core.Path.{◌≡◌, refl}
use mathlib.Core.Bool.{Bool, true, false, cond}
use Prim.Native.Nat.{ℕ, zero, suc}
use Rattle.std.specs.Prelude.{Option}
use Rattle.mask.specs.Mask.{full}
use Rattle.store.specs.Log.{perform}
use Rattle.participant.specs.Participant
use Rattle.coordinator.specs.Coordinator
use Rattle.rules.specs.State.{participant_of, log_of, in_flight}
use Rattle.rules.specs.Report.{closes, with_closed}
use Rattle.rules.specs.Step.{called, take_out, idle, moved, participant_to, participant_goes, coordinator_to, coordinator_goes, receive, participant_answered, participant_performed, participant_calls, coordinator_answered, coordinator_performed, coordinator_calls, step}
use Rattle.rules.specs.Types.{Logged, Participant, Message, Transition, Coordinator, Step, Start, Deliver, Copy, Lose, Timeout, Crash, Restart, Release, Report}

-- a due call of participant i on log j, that leaves x and leads to state p with s sent
pub record ParticipantCall (r : Release) (i j : ℕ) (x : Logged) (p : Participant) (s : Option Message) : Type 0 where
  pub done : perform (Participant.pending i (participant_of r i) j) (log_of r j) ≡ Option.Some x
  pub answer : Participant.on_answer (full r.n) i (participant_of r i) j x.answer ≡ Option.Some (p, s)

-- a due call of the coordinator
pub record CoordinatorCall (r : Release) (j : ℕ) (x : Logged) (c : Coordinator) (s : Option Message) : Type 0 where
  pub done : perform (Coordinator.pending r.coordinator j) (log_of r j) ≡ Option.Some x
  pub answer : Coordinator.on_answer (full r.n) r.coordinator j x.answer ≡ Option.Some (c, s)

pub data Cause (r : Release) : Step → Report → Type 0 where
  idles : {s : Step} → Cause r s (idle r)
  starts : {c : Coordinator} {x : Option Message} → Coordinator.on_start r.coordinator ≡ Option.Some (c, x) → Cause r Start (coordinator_to c x r)
  delivers : {m : Message} {i : ℕ} → in_flight r m i ≡ true → Cause r (Deliver m (suc i)) (receive m i (take_out m i r))
  copies : {m : Message} {i : ℕ} → in_flight r m i ≡ true → Cause r (Copy m (suc i)) (receive m i r)
  loses : {m : Message} {i : ℕ} → Cause r (Lose m (suc i)) (moved (take_out m i r))
  answered : {i j : ℕ} {l : Logged} {p : Participant} {x : Option Message} → ParticipantCall r i j l p x
      → Cause r (Step.Call (suc i) (suc j)) (with_closed (closes (suc i) j l) (participant_to i p x (called (suc i) j l.log r)))
  lost : {i j : ℕ} {l : Logged} {p : Participant} {x : Option Message} → ParticipantCall r i j l p x
      → Cause r (Step.CallLost (suc i) (suc j)) (with_closed (closes (suc i) j l) (moved (called (suc i) j l.log r)))
  coordinator_answered_lem : {j : ℕ} {l : Logged} {c : Coordinator} {x : Option Message} → CoordinatorCall r j l c x
      → Cause r (Step.Call zero (suc j)) (with_closed (closes 0 j l) (coordinator_to c x (called 0 j l.log r)))
  coordinator_lost : {j : ℕ} {l : Logged} {c : Coordinator} {x : Option Message} → CoordinatorCall r j l c x
      → Cause r (Step.CallLost zero (suc j)) (with_closed (closes 0 j l) (moved (called 0 j l.log r)))
  times_out : {i : ℕ} {p : Participant} {x : Option Message} → Participant.on_timeout (full r.n) i (participant_of r i) ≡ Option.Some (p, x)
      → Cause r (Timeout (suc i)) (participant_to i p x r)
  crashes : {i : ℕ} {p : Participant} {x : Option Message} → Participant.on_crash (participant_of r i) ≡ Option.Some (p, x) → Cause r (Crash (suc i)) (participant_to i p x r)
  restarts : {i : ℕ} {p : Participant} {x : Option Message} → Participant.on_restart (participant_of r i) ≡ Option.Some (p, x) → Cause r (Restart (suc i)) (participant_to i p x r)
  coordinator_times_out : {c : Coordinator} {x : Option Message} → Coordinator.on_timeout r.coordinator ≡ Option.Some (c, x)
      → Cause r (Timeout zero) (coordinator_to c x r)
  coordinator_crashes : {c : Coordinator} {x : Option Message} → Coordinator.on_crash r.coordinator ≡ Option.Some (c, x)
      → Cause r (Crash zero) (coordinator_to c x r)
  coordinator_restarts : {c : Coordinator} {x : Option Message} → Coordinator.on_restart r.coordinator ≡ Option.Some (c, x)
      → Cause r (Restart zero) (coordinator_to c x r)

module _ (r : Release) (s : Step) where
  goes_cause : (i : ℕ) (t₀ t : Transition Participant) → t₀ ≡ t → ((p : Participant) (x : Option Message) → t₀ ≡ Option.Some (p, x) → Cause r s (participant_to i p x r))
      → Cause r s (participant_goes i t r)
  goes_cause i t₀ Option.None q f = idles
  goes_cause i t₀ (Option.Some (p, x)) q f = f p x q

  coordinator_cause : (t₀ t : Transition Coordinator) → t₀ ≡ t
      → ((c : Coordinator) (x : Option Message) → t₀ ≡ Option.Some (c, x) → Cause r s (coordinator_to c x r)) → Cause r s (coordinator_goes t r)
  coordinator_cause t₀ Option.None q f = idles
  coordinator_cause t₀ (Option.Some (c, x)) q f = f c x q

  flight_cause : (b₀ b : Bool) (t : Report) → b₀ ≡ b → (b₀ ≡ true → Cause r s t) → Cause r s (cond b t (idle r))
  flight_cause b₀ true t q f = f q
  flight_cause b₀ false t q f = idles

answered_cause : (r : Release) (i j : ℕ) (l : Logged) (t : Transition Participant) → perform (Participant.pending i (participant_of r i) j) (log_of r j) ≡ Option.Some l
    → Participant.on_answer (full r.n) i (participant_of r i) j l.answer ≡ t
    → Cause r (Step.Call (suc i) (suc j)) (participant_answered true i j l t r) × Cause r (Step.CallLost (suc i) (suc j)) (participant_answered false i j l t r)
answered_cause r i j l Option.None q e = (idles, idles)
answered_cause r i j l (Option.Some (p, x)) q e = (answered (record { done = q; answer = e }), lost (record { done = q; answer = e }))

performed_cause : (r : Release) (i j : ℕ) (s : Option Logged) → perform (Participant.pending i (participant_of r i) j) (log_of r j) ≡ s
    → Cause r (Step.Call (suc i) (suc j)) (participant_performed true i j s r) × Cause r (Step.CallLost (suc i) (suc j)) (participant_performed false i j s r)
performed_cause r i j Option.None q = (idles, idles)
performed_cause r i j (Option.Some l) q = answered_cause r i j l (Participant.on_answer (full r.n) i (participant_of r i) j l.answer) q refl

coordinator_answered_cause : (r : Release) (j : ℕ) (l : Logged) (t : Transition Coordinator)
    → perform (Coordinator.pending r.coordinator j) (log_of r j) ≡ Option.Some l → Coordinator.on_answer (full r.n) r.coordinator j l.answer ≡ t
    → Cause r (Step.Call zero (suc j)) (coordinator_answered true j l t r) × Cause r (Step.CallLost zero (suc j)) (coordinator_answered false j l t r)
coordinator_answered_cause r j l Option.None q e = (idles, idles)
coordinator_answered_cause r j l (Option.Some (c, x)) q e =
    (coordinator_answered_lem (record { done = q; answer = e }), coordinator_lost (record { done = q; answer = e }))

coordinator_performed_cause : (r : Release) (j : ℕ) (s : Option Logged) → perform (Coordinator.pending r.coordinator j) (log_of r j) ≡ s
    → Cause r (Step.Call zero (suc j)) (coordinator_performed true j s r) × Cause r (Step.CallLost zero (suc j)) (coordinator_performed false j s r)
coordinator_performed_cause r j Option.None q = (idles, idles)
coordinator_performed_cause r j (Option.Some l) q =
    coordinator_answered_cause r j l (Coordinator.on_answer (full r.n) r.coordinator j l.answer) q refl

pub cause : (r : Release) (s : Step) → Cause r s (step r s)
unfolding participant_calls coordinator_calls
cause r Start = coordinator_cause r Start (Coordinator.on_start r.coordinator) (Coordinator.on_start r.coordinator) refl (λ c x q. starts q)
cause r (Deliver m zero) = idles
cause r (Deliver m (suc i)) = flight_cause r (Deliver m (suc i)) (in_flight r m i) (in_flight r m i) (receive m i (take_out m i r)) refl (λ b. delivers b)
cause r (Copy m zero) = idles
cause r (Copy m (suc i)) = flight_cause r (Copy m (suc i)) (in_flight r m i) (in_flight r m i) (receive m i r) refl (λ b. copies b)
cause r (Lose m zero) = idles
cause r (Lose m (suc i)) = flight_cause r (Lose m (suc i)) (in_flight r m i) (in_flight r m i) (moved (take_out m i r)) refl (λ b. loses)
cause r (Step.Call zero zero) = idles
cause r (Step.Call zero (suc j)) = (coordinator_performed_cause r j (perform (Coordinator.pending r.coordinator j) (log_of r j)) refl).0
cause r (Step.Call (suc i) zero) = idles
cause r (Step.Call (suc i) (suc j)) = (performed_cause r i j (perform (Participant.pending i (participant_of r i) j) (log_of r j)) refl).0
cause r (Step.CallLost zero zero) = idles
cause r (Step.CallLost zero (suc j)) = (coordinator_performed_cause r j (perform (Coordinator.pending r.coordinator j) (log_of r j)) refl).1
cause r (Step.CallLost (suc i) zero) = idles
cause r (Step.CallLost (suc i) (suc j)) = (performed_cause r i j (perform (Participant.pending i (participant_of r i) j) (log_of r j)) refl).1
cause r (Timeout zero) = coordinator_cause r (Timeout zero) (Coordinator.on_timeout r.coordinator) (Coordinator.on_timeout r.coordinator) refl (λ c x q. coordinator_times_out q)
cause r (Timeout (suc i)) =
    goes_cause r (Timeout (suc i)) i (Participant.on_timeout (full r.n) i (participant_of r i)) (Participant.on_timeout (full r.n) i (participant_of r i)) refl (λ p x q. times_out q)
cause r (Crash zero) = coordinator_cause r (Crash zero) (Coordinator.on_crash r.coordinator) (Coordinator.on_crash r.coordinator) refl (λ c x q. coordinator_crashes q)
cause r (Crash (suc i)) = goes_cause r (Crash (suc i)) i (Participant.on_crash (participant_of r i)) (Participant.on_crash (participant_of r i)) refl (λ p x q. crashes q)
cause r (Restart zero) = coordinator_cause r (Restart zero) (Coordinator.on_restart r.coordinator) (Coordinator.on_restart r.coordinator) refl (λ c x q. coordinator_restarts q)
cause r (Restart (suc i)) = goes_cause r (Restart (suc i)) i (Participant.on_restart (participant_of r i)) (Participant.on_restart (participant_of r i)) refl (λ p x q. restarts q)
