-- How a store call comes together to a step of the rules: counted, written to its log, and what follows. Assumes nothing.
use mathlib.Core.Path.{◌≡◌, refl, sym, ap, subst, ◌∙◌}
use mathlib.Core.Bool.{Bool, false}
use mathlib.Core.List.{List}
use Prim.Native.Nat.{ℕ, suc, ◌-◌, ◌≤◌, ◌<◌}
use lib.ListN.{get_or, set, length-set}
use lib.Seq.{set-get_or}
use Rattle.mask.specs.Mask.{full}
use Rattle.store.specs.Log.{empty, places}
use Rattle.rules.specs.State.{participant_of, log_of}
use Rattle.rules.specs.Report.{with_closed}
use Rattle.rules.specs.Step.{called, idle}
use Rattle.state.specs.Fields.{fields, HasPlaces, votes_in, coordinator_in, participant_in, counted_in}
use Rattle.state.proofs.Parts.{counts_one}
use Rattle.effect.specs.Leads.{LeadsUnder}
use Rattle.effect.proofs.Leading.{same_parts, number_place}
use Rattle.call.specs.Types.{LogPair, Store, Participant, Coordinator, Outcome, Release, Report}
use Rattle.call.specs.Steps.{Steps, Calls}

called_places : (p j : ℕ) (x : LogPair) (r : Release) → HasPlaces r → HasPlaces (called p j x r)
called_places p j x r h = record { sites = h.sites; messages = h.messages; calls = length-set r.calls p _ ∙ h.calls }

-- what leaves the store as it was takes any
pub stays : (all : ℕ) (f : Release → Report) (l k : List ℕ) (o : Outcome) (s : Store) → LeadsUnder all f l o k → Steps all f l s o false k s
stays all f l k o s u r h q e t = let x = u r h q e in (x.0, x.1, t ∙ x.2, sym x.3)

pub idles : (all : ℕ) (l : List ℕ) (s : Store) → Steps all idle l s Outcome.Idle false l s
idles all l s r h q e t = (refl, e, t, refl)

-- a due call is counted, its log is written, and what follows comes after that
pub after_call : (all : ℕ) (f : Release → Report) (p j : ℕ) (x : LogPair) (l k : List ℕ) (o : Outcome) (b c : Bool) (s t : Store) → p < suc places
    → b ≡ c → t ≡ record { logs = set s.logs j x } → LeadsUnder all f (counted_in p l) o k → Steps all (λ r. with_closed c (f (called p j x r))) l s o b k t
unfolding fields
after_call all f p j x l k o b c s t g d w u r h q e v =
    let y = u (called p j x r) (called_places p j x r h) q (ap (counted_in p) e ∙ counts_one r h p g) in
    (y.0, y.1, w ∙ ap (λ (z : Store). record { logs = set z.logs j x }) v ∙ y.2, d)

-- a step that reads parts of the release, and log j of the store
pub reads_log : (all i : ℕ) (l k : List ℕ) (o : Outcome) → i < places → (F : ℕ → ℕ → Coordinator → Participant → LogPair → Release → Report) (j : ℕ) (b : Bool) (s t : Store)
    → Steps all (F all (votes_in l) (coordinator_in l) (participant_in l i) (get_or s.logs j empty)) l s o b k t
    → Steps all (λ r. F (full r.n) r.votes r.coordinator (participant_of r i) (log_of r j) r) l s o b k t
reads_log all i l k o g F j b s t u r h q e w =
    subst (λ (f : Release → Report). (o ≡ (f r).outcome) × (k ≡ fields (f r).next) × (t ≡ (f r).next.store) × (b ≡ (f r).closed))
    (ap (λ (x : Store). F all (votes_in l) (coordinator_in l) (participant_in l i) (get_or x.logs j empty)) w ∙ same_parts all i l g (λ a v c p. F a v c p (log_of r j)) r h q e)
    (u r h q e w)

-- a number from 1 on is one more than its place
pub numbered_log : (all : ℕ) (f : ℕ → Release → Report) (p : ℕ) (l k : List ℕ) (o : Outcome) (b : Bool) (s t : Store) → 1 ≤ p → Steps all (f (suc (p - 1))) l s o b k t → Steps all (f p) l s o b k t
numbered_log all f p l k o b s t g u = subst (λ x. Steps all (f x) l s o b k t) (number_place p g) u

-- The same of a call, by its log alone

pub idles_on : (all j : ℕ) (l : List ℕ) (log : LogPair) → Calls all j idle l log Outcome.Idle false l log
idles_on all j l log s e =
    let same : s.logs ≡ set s.logs j log = sym (ap (set s.logs j) (sym e) ∙ set-get_or s.logs j empty) in
    subst (λ (t : Store). Steps all idle l s Outcome.Idle false l t) (ap (λ (x : List LogPair). record { logs = x }) same) (idles all l s)

pub after_called : (all : ℕ) (f : Release → Report) (p j : ℕ) (x log : LogPair) (l k : List ℕ) (o : Outcome) (b c : Bool) → p < suc places
    → b ≡ c → LeadsUnder all f (counted_in p l) o k → Calls all j (λ r. with_closed c (f (called p j x r))) l log o b k x
after_called all f p j x log l k o b c g d u s e = after_call all f p j x l k o b c s _ g d refl u

pub reads_called : (all i : ℕ) (l k : List ℕ) (o : Outcome) → i < places → (F : ℕ → ℕ → Coordinator → Participant → LogPair → Release → Report) (j : ℕ) (b : Bool) (log next : LogPair)
    → Calls all j (F all (votes_in l) (coordinator_in l) (participant_in l i) log) l log o b k next
    → Calls all j (λ r. F (full r.n) r.votes r.coordinator (participant_of r i) (log_of r j) r) l log o b k next
reads_called all i l k o g F j b log next u s e =
    reads_log all i l k o g F j b s _
    (subst (λ (x : LogPair). Steps all (F all (votes_in l) (coordinator_in l) (participant_in l i) x) l s o b k (record { logs = set s.logs j next })) (sym e) (u s e))
