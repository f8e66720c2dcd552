-- How changes of the numbers of a release in place come together to a step of the rules that makes no store call. Assumes nothing.
use mathlib.Core.Path.{◌≡◌, refl, sym, ap, subst, ◌∙◌}
use mathlib.Core.Bool.{Bool, true, false, cond}
use mathlib.Core.List.{List}
use Prim.Native.Nat.{ℕ, suc, ◌-◌, ◌≤◌, ◌<◌}
use native.Mathlib.Omega.{arith}
use lib.ListN.{length-set}
use Rattle.std.specs.Prelude.{Option}
use Rattle.mask.specs.Mask.{has, full}
use Rattle.store.specs.Log.{places}
use Rattle.rules.specs.State.{message_place, mask_of, in_flight, participant_of}
use Rattle.rules.specs.Report.{known, coordinator_known, learnt}
use Rattle.rules.specs.Step.{with_mask, reply, broadcast, participant_to, coordinator_to, idle}
use Rattle.state.specs.Fields.{fields, HasPlaces, votes_in, coordinator_in, mask_in, participant_in, with_coordinator_in, with_mask_in, with_participant_in, Puts}
use Rattle.state.proofs.Parts.{same_votes, coordinator_in_lem, participant_in_lem, mask_in_lem, with_coordinator_lem, with_mask_lem, with_participant_lem}
use Rattle.effect.specs.Types.{Message, Participant, Coordinator, Outcome, Release, Report}
use Rattle.effect.specs.Leads.{PutsUnder, Leads, LeadsUnder}

-- the places and the store that changes leave

masked_places : (m : Message) (x : ℕ) (r : Release) → HasPlaces r → HasPlaces (with_mask m x r)
masked_places m x r h = record { sites = h.sites; messages = length-set r.messages (message_place m) x ∙ h.messages; calls = h.calls }

reply_places : (s : Option Message) (i : ℕ) (r : Release) → HasPlaces r → HasPlaces (reply s i r)
reply_places Option.None i r h = h
reply_places (Option.Some m) i r h = masked_places m _ r h

reply_store : (s : Option Message) (i : ℕ) (r : Release) → r.store ≡ (reply s i r).store
reply_store Option.None i r = refl
reply_store (Option.Some m) i r = refl

broadcast_places : (s : Option Message) (r : Release) → HasPlaces r → HasPlaces (broadcast s r)
broadcast_places Option.None r h = h
broadcast_places (Option.Some m) r h = masked_places m _ r h

broadcast_store : (s : Option Message) (r : Release) → r.store ≡ (broadcast s r).store
broadcast_store Option.None r = refl
broadcast_store (Option.Some m) r = refl

-- a mask of messages changed

pub masks : (f : ℕ → ℕ) (m : Message) (l : List ℕ) → Puts (λ r. with_mask m (f (mask_of r m)) r) l (with_mask_in m (f (mask_in l m)) l)
masks f m l r h e =
    ap (λ x. with_mask_in m (f (mask_in x m)) x) e ∙ ap (λ x. with_mask_in m (f x) (fields r)) (mask_in_lem r h m) ∙ with_mask_lem r h m (f (mask_of r m))

pub masks_all : (all : ℕ) (m : Message) (l : List ℕ) → PutsUnder all (broadcast (Option.Some m)) l (with_mask_in m all l)
masks_all all m l r h q e = ap (with_mask_in m all) e ∙ ap (λ x. with_mask_in m x (fields r)) (sym q) ∙ with_mask_lem r h m (full r.n)

-- a party goes to a state

pub participant_goes_lem : (i : ℕ) (p : Participant) (s : Option Message) (l k : List ℕ) → i < places → Puts (reply s i) l k
    → Leads (participant_to i p s) l (learnt (known (participant_in l i)) (known p)) (with_participant_in i p k)
unfolding participant_to
participant_goes_lem i p s l k g u r h e = (
  ap (λ x. learnt (known (participant_in x i)) (known p)) e ∙ ap (λ x. learnt (known x) (known p)) (participant_in_lem r h i g),
  ap (with_participant_in i p) (u r h e) ∙ with_participant_lem (reply s i r) (reply_places s i r h) i p g,
  reply_store s i r,
  refl,
)

pub coordinator_goes_lem : (all : ℕ) (c : Coordinator) (s : Option Message) (l k : List ℕ) → PutsUnder all (broadcast s) l k
    → LeadsUnder all (coordinator_to c s) l (learnt (coordinator_known (coordinator_in l)) (coordinator_known c)) (with_coordinator_in c k)
unfolding coordinator_to
coordinator_goes_lem all c s l k u r h q e = (
  ap (λ x. learnt (coordinator_known (coordinator_in x)) (coordinator_known c)) e ∙ ap (λ x. learnt (coordinator_known x) (coordinator_known c)) (coordinator_in_lem r h),
  ap (with_coordinator_in c) (u r h q e) ∙ with_coordinator_lem (broadcast s r) (broadcast_places s r h) c,
  broadcast_store s r,
  refl,
)

-- what takes no mask takes any

pub under : (all : ℕ) (f : Release → Report) (l k : List ℕ) (o : Outcome) → Leads f l o k → LeadsUnder all f l o k
under all f l k o u r h q e = u r h e

-- a message is taken out of flight, and what follows comes after that
pub after_mask : (all : ℕ) (f : Release → Report) (g : ℕ → ℕ) (t : Message) (l k m : List ℕ) (o : Outcome) → Puts (λ r. with_mask t (g (mask_of r t)) r) l k
    → LeadsUnder all f k o m → LeadsUnder all (λ r. f (with_mask t (g (mask_of r t)) r)) l o m
after_mask all f g t l k m o a b r h q e = b (with_mask t (g (mask_of r t)) r) (masked_places t _ r h) q (a r h e)

-- a step of a message that is in flight, and of one that is not

flight : (m : Message) (i : ℕ) (l : List ℕ) (b : Bool) → b ≡ has i (mask_in l m) → (r : Release) → HasPlaces r → l ≡ fields r → in_flight r m i ≡ b
flight m i l b q r h e = ap (has i) (sym (mask_in_lem r h m)) ∙ ap (λ x. has i (mask_in x m)) (sym e) ∙ sym q

pub in_flight_leads : (all : ℕ) (f : Release → Report) (m : Message) (i : ℕ) (l k : List ℕ) (o : Outcome) (b : Bool) → b ≡ true → b ≡ has i (mask_in l m) → LeadsUnder all f l o k
    → LeadsUnder all (λ r. cond (in_flight r m i) (f r) (idle r)) l o k
in_flight_leads all f m i l k o b t q u r h w e = rw (flight m i l b q r h e, t) (u r h w e)

pub no_flight_leads : (all : ℕ) (f : Release → Report) (m : Message) (i : ℕ) (l : List ℕ) (b : Bool) → b ≡ false → b ≡ has i (mask_in l m)
    → LeadsUnder all (λ r. cond (in_flight r m i) (f r) (idle r)) l Outcome.Idle l
no_flight_leads all f m i l b t q r h w e = rw (flight m i l b q r h e, t) (refl, e, refl, refl)

-- a step that reads parts of the release: the mask of all participants, the votes, the coordinator, participant i

module _ (all i : ℕ) (l : List ℕ) (g : i < places) (F : ℕ → ℕ → Coordinator → Participant → Release → Report) (r : Release) (h : HasPlaces r) (q : full r.n ≡ all) (e : l ≡ fields r) where
  pub same_parts : F all (votes_in l) (coordinator_in l) (participant_in l i) ≡ F (full r.n) r.votes r.coordinator (participant_of r i)
  same_parts =
      ap (λ x. F x (votes_in l) (coordinator_in l) (participant_in l i)) (sym q)
      ∙ ap (λ x. F (full r.n) (votes_in x) (coordinator_in x) (participant_in x i)) e
      ∙ ap (λ x. F (full r.n) x (coordinator_in (fields r)) (participant_in (fields r) i)) (same_votes r h)
      ∙ ap (λ x. F (full r.n) r.votes x (participant_in (fields r) i)) (coordinator_in_lem r h)
      ∙ ap (λ x. F (full r.n) r.votes r.coordinator x) (participant_in_lem r h i g)

pub reads : (all i : ℕ) (l k : List ℕ) (o : Outcome) → i < places → (F : ℕ → ℕ → Coordinator → Participant → Release → Report)
    → LeadsUnder all (F all (votes_in l) (coordinator_in l) (participant_in l i)) l o k → LeadsUnder all (λ r. F (full r.n) r.votes r.coordinator (participant_of r i) r) l o k
reads all i l k o g F u r h q e =
    subst (λ (f : Release → Report). (o ≡ (f r).outcome) × (k ≡ fields (f r).next) × (r.store ≡ (f r).next.store) × ((f r).closed ≡ false)) (same_parts all i l g F r h q e) (u r h q e)

-- a number from 1 on is one more than its place

pub number_place : (p : ℕ) → 1 ≤ p → suc (p - 1) ≡ p
number_place p g = omega arith

pub numbered : (all : ℕ) (f : ℕ → Release → Report) (p : ℕ) (l k : List ℕ) (o : Outcome) → 1 ≤ p → LeadsUnder all (f (suc (p - 1))) l o k → LeadsUnder all (f p) l o k
numbered all f p l k o g u = subst (λ x. LeadsUnder all (f x) l o k) (number_place p g) u
