-- A decision delivered does what is written, and leaves one answered call. Assumes nothing.
use mathlib.Core.Path.{◌≡◌, refl, sym, ap, ◌∙◌, subst}
use mathlib.Core.Logic.{◌⊎◌, inl, inr}
use mathlib.Core.Bool.{false}
use mathlib.Core.List.{List, [], ◌∷◌}
use Prim.Native.Nat.{ℕ, zero, suc, ◌≤◌, ◌<◌}
use native.Mathlib.Omega.{arith}
use native.Mathlib.Nat.{le_trans}
use lib.ListN.{length, set}
use Rattle.std.specs.Prelude.{Option}
use Rattle.kind.specs.Step.{AllInRange}
use Rattle.participant.specs.Participant
use Rattle.participant.specs.Decision.{TakesDecision, DecisionLeads}
use Rattle.participant.proofs.Numbers.{by_numbers}
use Rattle.participant.proofs.Decision.{decision_as_written}
use Rattle.participant.proofs.Takes.{takes_decision}
use Rattle.rules.specs.State.{participant_at, participant_of, first_of, fresh}
use Rattle.rules.specs.Report.{outcome_number, known, learnt, step_byte}
use Rattle.rules.specs.Step.{take_out, with_participant, participant_to, receive, step}
use Rattle.rules.specs.Run.{after}
use Rattle.rules.specs.Demand.{Holds}
use Rattle.rules.specs.Decision.{decision_message, decision_byte, DeliversDecision, DeliveredAsWritten, HoldsDecision, OneCallLeft, HeldAfterOneCall}
use Rattle.rules.specs.Types.{Participant, Uncertain, Terminating, Message, Decision, Site, Release, Step, Deliver, Copy, Outcome, Report}
use Rattle.rules.proofs.FirstRecords.{Stated, still, keeps_trans, excluded}
use Rattle.rules.proofs.Invariant.{message_claim, Knows, Inv}
use Rattle.rules.proofs.Updates.{Good}
use Rattle.rules.proofs.Safety.{step_good}
use Rattle.rules.proofs.Agreement.{fresh_inv, range_left, range_right, Later, later}
use Rattle.rules.proofs.Rank.{rank, recording_rank}
use Rattle.rules.proofs.Due.{known_moves, same_learnt}
use Rattle.rules.proofs.Actions.{placed, participant_goes_to}
use Rattle.rules.proofs.Readiness.{rank_up}
use Rattle.rules.proofs.Demand.{held_after}

-- what the participant of a release goes to
abbrev decided : Release → Decision → ℕ → Participant
decided r d i = Participant.on_decision d (participant_of r i)

-- the step, from the release with the message taken out or, of a copy, left
record Received (r : Release) (s : Step) (d : Decision) (i : ℕ) : Type 0 where
  from : Release
  sites : from.sites ≡ r.sites
  report : step r s ≡ participant_to i (decided r d i) Option.None from

receives : (d : Decision) (i : ℕ) (r : Release) → receive (decision_message d) i r ≡ participant_to i (decided r d i) Option.None r
receives Decision.Commit i r = refl
receives Decision.Abort i r = refl

received : (r : Release) (s : Step) (d : Decision) (i : ℕ) → DeliversDecision r s d i → Received r s d i
received r s d i b = go b.delivery
  where
    go : (s ≡ Deliver (decision_message d) (suc i)) ⊎ (s ≡ Copy (decision_message d) (suc i)) → Received r s d i
    go (inl e) =
        record { from = take_out (decision_message d) i r; sites = refl; report = rw (e, b.is_in_flight) (receives d i (take_out (decision_message d) i r)) }
    go (inr e) = record { from = r; sites = refl; report = rw (e, b.is_in_flight) (receives d i r) }

-- where it leads, and what is reported

taken_by : (r : Release) (s : Step) (d : Decision) (i : ℕ) → i < length r.sites → DeliversDecision r s d i → participant_of (step r s).next i ≡ decided r d i
taken_by r s d i room b =
    let x : Received r s d i = received r s d i b in
    ap (λ (t : Report). participant_of t.next i) x.report ∙ (participant_goes_to i (decided r d i) Option.None x.from).state (rw x.sites room)

to_byte : (i : ℕ) (p : Participant) (s : Option Message) (r : Release) → step_byte (participant_to i p s r) ≡ outcome_number (learnt (known (participant_of r i)) (known p))
unfolding participant_to
to_byte i p s r = omega arith

byte_by : (r : Release) (s : Step) (d : Decision) (i : ℕ) → DeliversDecision r s d i
    → step_byte (step r s) ≡ outcome_number (learnt (known (participant_of r i)) (known (decided r d i)))
byte_by r s d i b =
    let x : Received r s d i = received r s d i b in
    ap step_byte x.report ∙ to_byte i (decided r d i) Option.None x.from
    ∙ ap (λ (l : List Site). outcome_number (learnt (known (participant_at l i)) (known (decided r d i)))) x.sites

-- in 3 or 4 it knows no decision yet
unknown : (p : Participant) → TakesDecision p → known p ≡ Outcome.Moved
unknown p (inl e) = ap known (by_numbers p 3 (Participant.heard_of p) e refl)
unknown p (inr e) = ap known (by_numbers p 4 (Participant.heard_of p) e refl)

recording_byte : (d : Decision) → outcome_number (known (Participant.recording d)) ≡ decision_byte d
recording_byte Decision.Commit = refl
recording_byte Decision.Abort = refl

taken_byte : (d : Decision) (p : Participant) → TakesDecision p → outcome_number (learnt (known p) (known (Participant.on_decision d p))) ≡ decision_byte d
taken_byte d p t = rw (unknown p t, takes_decision d p t) (recording_byte d)

stays_byte : (d : Decision) (p : Participant) → (TakesDecision p → ⊥) → outcome_number (learnt (known p) (known (Participant.on_decision d p))) ≡ 1
stays_byte d p n = rw ((decision_as_written d p).no_effect n) (ap outcome_number (same_learnt (known p) (known_moves p)))

-- in 4 like in 3

set_twice {ℓ} : {A : Type ℓ} (l : List A) (k : ℕ) (x y : A) → set (set l k x) k y ≡ set l k y
set_twice [] k x y = refl
set_twice (z ∷ l) zero x y = refl
set_twice (z ∷ l) (suc k) x y = ap (◌∷◌ z) (set_twice l k x y)

module _ (r : Release) (d : Decision) (i : ℕ) where
  abbrev uncertain : Release
  uncertain = with_participant i Uncertain r

  abbrev report_with : List Site → Report
  report_with sites =
      record {
        outcome = known (Participant.recording d);
        closed = false;
        next = record { n = r.n; votes = r.votes; coordinator = r.coordinator; messages = r.messages; sites = sites; store = r.store; calls = r.calls };
      }

  like_uncertain : (h : ℕ) → i < length r.sites → participant_of r i ≡ Terminating h
      → participant_to i (decided r d i) Option.None r ≡ participant_to i (decided uncertain d i) Option.None uncertain
  unfolding participant_to
  like_uncertain h room e =
      let u : participant_of uncertain i ≡ Uncertain = placed i Uncertain r room in
      rw (e, u) (ap report_with (sym (set_twice r.sites i (record { participant = Uncertain }) (record { participant = Participant.recording d }))))

like : (r : Release) (s : Step) (d : Decision) (i : ℕ) → i < length r.sites → DeliversDecision r s d i → (h : ℕ) → participant_of r i ≡ Terminating h
    → step r s ≡ step (with_participant i Uncertain r) s
like r s d i room b h e = go b.delivery
  where
    receives_like : (t : Release) → i < length t.sites → participant_of t i ≡ Terminating h
        → receive (decision_message d) i t ≡ receive (decision_message d) i (with_participant i Uncertain t)
    receives_like t l k = receives d i t ∙ like_uncertain t d i h l k ∙ sym (receives d i (with_participant i Uncertain t))

    go : (s ≡ Deliver (decision_message d) (suc i)) ⊎ (s ≡ Copy (decision_message d) (suc i)) → step r s ≡ step (with_participant i Uncertain r) s
    go (inl q) = rw (q, b.is_in_flight) (receives_like (take_out (decision_message d) i r) room e)
    go (inr q) = rw (q, b.is_in_flight) (receives_like r room e)

pub delivered_as_written : DeliveredAsWritten
delivered_as_written r s d i room b =
    record {
      leads = subst (DecisionLeads d (participant_of r i)) (sym (taken_by r s d i room b)) (decision_as_written d (participant_of r i));
      reported = λ t. byte_by r s d i b ∙ taken_byte d (participant_of r i) t;
      unreported = λ n. byte_by r s d i b ∙ stays_byte d (participant_of r i) n;
      like_in_3 = like r s d i room b;
    }

-- one answered call is left

one_call_left : (r : Release) → Inv r → (s : Step) (ys : List Step) → AllInRange r.n (s ∷ ys) → (d : Decision) (i : ℕ) → i < r.n → DeliversDecision r s d i
    → TakesDecision (participant_of r i) → OneCallLeft r s d ys i
one_call_left r v s ys h d i lt b t calm more = same d told held
  where
    g : Good r (step r s)
    g = step_good r s h.0 v

    reached : Later (step r s).next (after (step r s).next ys)
    reached = later (step r s).next ys (rw g.same_n h.1) g.inv

    -- the message stands for what the logs say, and they still say it
    told : Stated r.n (first_of (after (step r s).next ys)) (message_claim i (decision_message d))
    told = still r.n (keeps_trans g.keeps reached.keeps) (message_claim i (decision_message d)) (v.tells (decision_message d) i lt b.is_in_flight)

    knows : Knows r.n (first_of (after (step r s).next ys)) i (participant_of (after (step r s).next ys) i)
    knows = rw (reached.same_n ∙ g.same_n) at (reached.inv.knows i (rw (reached.same_n ∙ g.same_n) lt))

    same : (d : Decision) → Stated r.n (first_of (after (step r s).next ys)) (message_claim i (decision_message d)) → Holds (after (step r s).next ys) i → HoldsDecision d (after (step r s).next ys) i
    same Decision.Commit a (inl x) = x
    same Decision.Commit a (inr x) = absurd (excluded a (rw x.state at knows))
    same Decision.Abort a (inl x) = absurd (excluded (rw x.state at knows) a)
    same Decision.Abort a (inr x) = x

    one : rank (step r s).next.n (participant_of (step r s).next i) ≤ 1
    one = rw (g.same_n, taken_by r s d i (le_trans lt v.sites_room) b, takes_decision d (participant_of r i) t) (recording_rank r.n i lt d)

    held : Holds (after (step r s).next ys) i
    held =
        held_after (step r s).next g.inv i (rw g.same_n lt) ys (rw g.same_n h.1)
        (rank_up (step r s).next.n (participant_of (step r s).next i) (omega (arith, one))) calm (le_trans one more)

pub held_after_one_call : HeldAfterOneCall
held_after_one_call places n votes fits xs s ys h d i lt b t =
    let c : Later (fresh places n votes) (after (fresh places n votes) xs) = later (fresh places n votes) xs (range_left n xs (s ∷ ys) h) (fresh_inv places n votes fits) in
    one_call_left (after (fresh places n votes) xs) c.inv s ys (subst (λ k. AllInRange k (s ∷ ys)) (sym c.same_n) (range_right n xs (s ∷ ys) h)) d i (rw c.same_n lt) b t
