-- A step of a release with more places is the step, with more places; so is a run: the statement PlacesSame. Assumes nothing.
use mathlib.Core.Path.{◌≡◌, refl, ap, ap₂, ◌∙◌}
use mathlib.Core.Bool.{Bool, true, false, cond}
use mathlib.Core.List.{List, [], ◌∷◌, ◌++◌, map}
use Prim.Native.Nat.{ℕ, zero, suc, ◌+◌, ◌≤◌, ◌<◌}
use native.Mathlib.Omega.{arith}
use lib.ListN.{length, get_or, set, replicate, length-replicate, replicate-append-replicate}
use lib.Seq.{set-append_left}
use Rattle.std.specs.Prelude.{Option}
use Rattle.store.specs.Log.{empty, perform}
use Rattle.kind.specs.Step.{in_range, AllInRange}
use Rattle.mask.specs.Mask.{has, full}
use Rattle.participant.specs.Participant
use Rattle.coordinator.specs.Coordinator
use Rattle.rules.specs.State.{waiting, participant_of, log_of, in_flight, fresh}
use Rattle.rules.specs.Step.{idle, moved, send, take_out, with_participant, participant_to, participant_goes, coordinator_to, coordinator_goes, receive, called, participant_answered, participant_performed, participant_calls, coordinator_answered, coordinator_performed, coordinator_calls, step}
use Rattle.rules.specs.Report.{known, learnt, closes, with_closed, step_byte}
use Rattle.rules.specs.Run.{reports, after}
use Rattle.rules.specs.Places.{widened, PlacesSame}
use Rattle.rules.specs.Types.{LogPair, Logged, Message, Decision, Participant, Transition, Coordinator, Site, Release, Step, Start, Deliver, Copy, Lose, Timeout, Crash, Restart, Report}
use Rattle.rules.proofs.Agreement.{replicate_all}
use Rattle.rules.proofs.Bounds.{Bounds, bounds}
use Rattle.rules.proofs.Causes.{cause}
use Rattle.rules.proofs.Room.{caused_room}

abbrev pub widened_report : ℕ → Report → Report
widened_report k t = record { outcome = t.outcome; closed = t.closed; next = widened k t.next }

-- room for n
pub record HasRoom (r : Release) : Type 0 where
  pub sites : r.n ≤ length r.sites
  pub logs : r.n ≤ length r.store.logs
  pub calls : r.n < length r.calls

padded : {A : Type 0} (l : List A) (k i : ℕ) (d : A) → get_or (l ++ replicate k d) i d ≡ get_or l i d
padded [] k i d = replicate_all (λ x. x ≡ d) k i d refl
padded (x ∷ l) k zero d = refl
padded (x ∷ l) k (suc i) d = padded l k i d

module _ (k : ℕ) where
  participant_same : (r : Release) (i : ℕ) → participant_of (widened k r) i ≡ participant_of r i
  participant_same r i = ap (λ (s : Site). s.participant) (padded r.sites k i waiting)

  log_same : (r : Release) (j : ℕ) → log_of (widened k r) j ≡ log_of r j
  log_same r j = padded r.store.logs k j empty

  placed : (i : ℕ) (p : Participant) (r : Release) → i < length r.sites → with_participant i p (widened k r) ≡ widened k (with_participant i p r)
  placed i p r l =
      ap (λ (x : List Site). record { n = r.n; votes = r.votes; coordinator = r.coordinator; messages = r.messages; sites = x; store = record { logs = r.store.logs ++ replicate k empty }; calls = r.calls ++ replicate k 0 })
      (set-append_left r.sites (replicate k waiting) i (record { participant = p }) l)

  to_widened : (i : ℕ) (p : Participant) (s : Option Message) (r : Release) → i < length r.sites → participant_to i p s (widened k r) ≡ widened_report k (participant_to i p s r)
  unfolding participant_to
  to_widened i p Option.None r l =
      ap₂ (λ (q : Participant) (x : Release). record { outcome = learnt (known q) (known p); closed = false; next = x }) (participant_same r i) (placed i p r l)
  to_widened i p (Option.Some m) r l =
      ap₂ (λ (q : Participant) (x : Release). record { outcome = learnt (known q) (known p); closed = false; next = x }) (participant_same r i) (placed i p (send m i r) l)

  goes_widened : (i : ℕ) (t : Transition Participant) (r : Release) → i < length r.sites → participant_goes i t (widened k r) ≡ widened_report k (participant_goes i t r)
  goes_widened i Option.None r l = refl
  goes_widened i (Option.Some (p, s)) r l = to_widened i p s r l

  led : (c : Coordinator) (s : Option Message) (r : Release) → coordinator_to c s (widened k r) ≡ widened_report k (coordinator_to c s r)
  unfolding coordinator_to
  led c Option.None r = refl
  led c (Option.Some m) r = refl

  leads : (t : Transition Coordinator) (r : Release) → coordinator_goes t (widened k r) ≡ widened_report k (coordinator_goes t r)
  leads Option.None r = refl
  leads (Option.Some (c, s)) r = led c s r

  received : (m : Message) (i : ℕ) (r : Release) → i < length r.sites → receive m i (widened k r) ≡ widened_report k (receive m i r)
  received Message.Request i r l =
      ap (λ (p : Participant). participant_to i (Participant.on_request (has i r.votes) p) Option.None (widened k r)) (participant_same r i) ∙ to_widened i _ Option.None r l
  received Message.ReplyYes i r l = leads (Coordinator.on_reply_yes (full r.n) i r.coordinator) r
  received Message.ReplyAbort i r l = leads (Coordinator.on_reply_abort r.coordinator) r
  received Message.Commit i r l =
      ap (λ (p : Participant). participant_to i (Participant.on_decision Decision.Commit p) Option.None (widened k r)) (participant_same r i) ∙ to_widened i _ Option.None r l
  received Message.Abort i r l =
      ap (λ (p : Participant). participant_to i (Participant.on_decision Decision.Abort p) Option.None (widened k r)) (participant_same r i) ∙ to_widened i _ Option.None r l

  called_widened : (p j : ℕ) (l : LogPair) (r : Release) → p < length r.calls → j < length r.store.logs → called p j l (widened k r) ≡ widened k (called p j l r)
  called_widened p j l r g h =
      ap₂ (λ (x : List LogPair) (y : List ℕ). record { n = r.n; votes = r.votes; coordinator = r.coordinator; messages = r.messages; sites = r.sites ++ replicate k waiting; store = record { logs = x }; calls = y })
      (set-append_left r.store.logs (replicate k empty) j l h)
      (ap (λ c. set (r.calls ++ replicate k 0) p (c + 1)) (padded r.calls k p 0) ∙ set-append_left r.calls (replicate k 0) p (get_or r.calls p 0 + 1) g)

  module _ (i j : ℕ) (r : Release) (a : i < length r.sites) (b : suc i < length r.calls) (c : j < length r.store.logs) where
    answered : (heard : Bool) (x : Logged) (t : Transition Participant) → participant_answered heard i j x t (widened k r) ≡ widened_report k (participant_answered heard i j x t r)
    answered heard x Option.None = refl
    answered true x (Option.Some (p, s)) = ap (with_closed (closes (suc i) j x)) (ap (participant_to i p s) (called_widened (suc i) j x.log r b c) ∙ to_widened i p s (called (suc i) j x.log r) a)
    answered false x (Option.Some (p, s)) = ap (λ (t : Release). with_closed (closes (suc i) j x) (moved t)) (called_widened (suc i) j x.log r b c)

    performed : (heard : Bool) (x : Option Logged) → participant_performed heard i j x (widened k r) ≡ widened_report k (participant_performed heard i j x r)
    performed heard Option.None = refl
    performed heard (Option.Some x) =
        ap (λ (p : Participant). participant_answered heard i j x (Participant.on_answer (full r.n) i p j x.answer) (widened k r)) (participant_same r i)
        ∙ answered heard x (Participant.on_answer (full r.n) i (participant_of r i) j x.answer)

    calls_widened : (heard : Bool) → participant_calls heard i j (widened k r) ≡ widened_report k (participant_calls heard i j r)
    unfolding participant_calls
    calls_widened heard =
        ap₂ (λ (p : Participant) (l : LogPair). participant_performed heard i j (perform (Participant.pending i p j) l) (widened k r)) (participant_same r i) (log_same r j)
        ∙ performed heard (perform (Participant.pending i (participant_of r i) j) (log_of r j))

  module _ (j : ℕ) (r : Release) (b : 0 < length r.calls) (c : j < length r.store.logs) where
    lead_answered : (heard : Bool) (x : Logged) (t : Transition Coordinator) → coordinator_answered heard j x t (widened k r) ≡ widened_report k (coordinator_answered heard j x t r)
    lead_answered heard x Option.None = refl
    lead_answered true x (Option.Some (p, s)) = ap (with_closed (closes 0 j x)) (ap (coordinator_to p s) (called_widened 0 j x.log r b c) ∙ led p s (called 0 j x.log r))
    lead_answered false x (Option.Some (p, s)) = ap (λ (t : Release). with_closed (closes 0 j x) (moved t)) (called_widened 0 j x.log r b c)

    lead_performed : (heard : Bool) (x : Option Logged) → coordinator_performed heard j x (widened k r) ≡ widened_report k (coordinator_performed heard j x r)
    lead_performed heard Option.None = refl
    lead_performed heard (Option.Some x) = lead_answered heard x (Coordinator.on_answer (full r.n) r.coordinator j x.answer)

    lead_calls : (heard : Bool) → coordinator_calls heard j (widened k r) ≡ widened_report k (coordinator_calls heard j r)
    unfolding coordinator_calls
    lead_calls heard =
        ap (λ (l : LogPair). coordinator_performed heard j (perform (Coordinator.pending r.coordinator j) l) (widened k r)) (log_same r j)
        ∙ lead_performed heard (perform (Coordinator.pending r.coordinator j) (log_of r j))

  -- a test that decides between a due step and none
  either : (b : Bool) (x y : Report) (r : Release) → x ≡ widened_report k y → cond b x (idle (widened k r)) ≡ widened_report k (cond b y (idle r))
  either true x y r e = e
  either false x y r e = refl

  in_step : (r : Release) → HasRoom r → (s : Step) → Bounds r.n s → step (widened k r) s ≡ widened_report k (step r s)
  in_step r g Start q = leads (Coordinator.on_start r.coordinator) r
  in_step r g (Deliver m zero) q = refl
  in_step r g (Deliver m (suc i)) q = either (in_flight r m i) _ _ r (received m i (take_out m i r) (omega (arith, g.sites, q.1)))
  in_step r g (Copy m zero) q = refl
  in_step r g (Copy m (suc i)) q = either (in_flight r m i) _ _ r (received m i r (omega (arith, g.sites, q.1)))
  in_step r g (Lose m zero) q = refl
  in_step r g (Lose m (suc i)) q = either (in_flight r m i) (moved (take_out m i (widened k r))) (moved (take_out m i r)) r refl
  in_step r g (Step.Call zero zero) q = refl
  in_step r g (Step.Call zero (suc j)) q = lead_calls j r (omega (arith, g.calls)) (omega (arith, g.logs, q.2)) true
  in_step r g (Step.Call (suc i) zero) q = refl
  in_step r g (Step.Call (suc i) (suc j)) q = calls_widened i j r (omega (arith, g.sites, q.0)) (omega (arith, g.calls, q.0)) (omega (arith, g.logs, q.2)) true
  in_step r g (Step.CallLost zero zero) q = refl
  in_step r g (Step.CallLost zero (suc j)) q = lead_calls j r (omega (arith, g.calls)) (omega (arith, g.logs, q.2)) false
  in_step r g (Step.CallLost (suc i) zero) q = refl
  in_step r g (Step.CallLost (suc i) (suc j)) q = calls_widened i j r (omega (arith, g.sites, q.0)) (omega (arith, g.calls, q.0)) (omega (arith, g.logs, q.2)) false
  in_step r g (Timeout zero) q = leads (Coordinator.on_timeout r.coordinator) r
  in_step r g (Timeout (suc i)) q =
      ap (λ (p : Participant). participant_goes i (Participant.on_timeout (full r.n) i p) (widened k r)) (participant_same r i) ∙ goes_widened i (Participant.on_timeout (full r.n) i (participant_of r i)) r (omega (arith, g.sites, q))
  in_step r g (Crash zero) q = leads (Coordinator.on_crash r.coordinator) r
  in_step r g (Crash (suc i)) q =
      ap (λ (p : Participant). participant_goes i (Participant.on_crash p) (widened k r)) (participant_same r i) ∙ goes_widened i (Participant.on_crash (participant_of r i)) r (omega (arith, g.sites, q))
  in_step r g (Restart zero) q = leads (Coordinator.on_restart r.coordinator) r
  in_step r g (Restart (suc i)) q =
      ap (λ (p : Participant). participant_goes i (Participant.on_restart p) (widened k r)) (participant_same r i) ∙ goes_widened i (Participant.on_restart (participant_of r i)) r (omega (arith, g.sites, q))

  pub step_widened : (r : Release) → HasRoom r → (s : Step) → in_range r.n s ≡ true → step (widened k r) s ≡ widened_report k (step r s)
  step_widened r g s q = in_step r g s (bounds r.n s q)

  room_next : (r : Release) (s : Step) → HasRoom r → HasRoom (step r s).next
  room_next r s g =
      let e = caused_room r (cause r s) in
      record { sites = omega (arith, g.sites, e.same_n, e.sites); logs = omega (arith, g.logs, e.same_n, e.logs); calls = omega (arith, g.calls, e.same_n, e.calls) }

  -- over a list: the same bytes, and the same release with more places
  pub run_widened : (r : Release) → HasRoom r → (steps : List Step) → AllInRange r.n steps
      → (map step_byte (reports (widened k r) steps) ≡ map step_byte (reports r steps)) × (after (widened k r) steps ≡ widened k (after r steps))
  run_widened r g [] q = (refl, refl)
  run_widened r g (s ∷ ss) q =
      let e = step_widened r g s q.0 in
      let n = (caused_room r (cause r s)).same_n in
      let next = run_widened (step r s).next (room_next r s g) ss (rw n q.1) in (
        ap₂ (λ (b : ℕ) (bs : List ℕ). b ∷ bs) (ap step_byte e) (ap (λ (t : Report). map step_byte (reports t.next ss)) e ∙ next.0),
        ap (λ (t : Report). after t.next ss) e ∙ next.1,
      )

-- a fresh release with more places
pub fresh_widened : (places k n votes : ℕ) → widened k (fresh places n votes) ≡ fresh (places + k) n votes
fresh_widened places k n votes =
    let e : suc places + k ≡ suc (places + k) = omega arith in
    let zero' : ℕ = 0 in
    let c : replicate (suc places) zero' ++ replicate k zero' ≡ replicate (suc (places + k)) zero' = replicate-append-replicate (suc places) k zero' ∙ ap (λ (m : ℕ). replicate m zero') e in
    rw (replicate-append-replicate places k waiting, replicate-append-replicate places k empty, c) refl

pub places_same : PlacesSame
places_same places k n votes h steps q =
    let g : HasRoom (fresh places n votes) =
    record { sites = omega (arith, length-replicate places waiting); logs = omega (arith, length-replicate places empty); calls = omega (arith, length-replicate {A = ℕ} (suc places) 0) } in
    rw (← fresh_widened places k n votes) (run_widened k (fresh places n votes) g steps q)
