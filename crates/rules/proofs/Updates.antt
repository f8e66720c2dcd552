-- Each update of a release keeps the invariant. Assumes nothing.
use mathlib.Core.Path.{◌≡◌, refl, sym}
use mathlib.Core.List.{List, [], ◌∷◌}
use mathlib.Core.Bool.{true}
use Prim.Native.Nat.{ℕ, zero, suc, ◌≤◌, ◌<◌}
use native.Mathlib.Nat.{le_trans}
use lib.ListN.{get_or, set, length, length-set}
use lib.Seq.{get_or-set_same}
use Rattle.std.specs.Prelude.{Option}
use Rattle.mask.specs.Mask.{has, insert, remove, full}
use Rattle.mask.proofs.Laws.{has_insert_cases, has_remove}
use Rattle.store.specs.Log.{empty}
use Rattle.rules.specs.State.{participant_of, log_of, first_of, last_of, message_place, mask_at, mask_of, waiting}
use Rattle.rules.specs.Report.{known, coordinator_known, learnt}
use Rattle.rules.specs.Step.{with_mask, send, send_all, take_out, with_participant, participant_to, with_coordinator, coordinator_to, called, idle}
use Rattle.rules.specs.Types.{LogRecord, LogPair, Participant, Coordinator, Message, Site, Release, Report}
use Rattle.rules.proofs.Messages.{same_message}
use Rattle.rules.proofs.FirstRecords.{still, Keep, Keeps, keep_refl, keeps_refl}
use Rattle.rules.proofs.Invariant.{Knows, Ends, Allowed, CoordinatorKnows, Tells, Backed, Inv, participant_claim, log_claim, coordinator_claim, message_claim, known_backed, coordinator_backed, learnt_backed}

-- what holds at each place, and of what is stored, holds at each place after the store
pub set_all {ℓ} : {A : Type ℓ} (Q : ℕ → A → Type 0) (l : List A) (k : ℕ) (x d : A)
    → ((j : ℕ) → Q j (get_or l j d)) → Q k x → (j : ℕ) → Q j (get_or (set l k x) j d)
set_all Q [] k x d old new j = old j
set_all Q (y ∷ ys) zero x d old new zero = new
set_all Q (y ∷ ys) zero x d old new (suc j) = old (suc j)
set_all Q (y ∷ ys) (suc k) x d old new zero = old zero
set_all Q (y ∷ ys) (suc k) x d old new (suc j) = set_all (λ i a. Q (suc i) a) ys k x d (λ i. old (suc i)) new j

le_set {ℓ} : {A : Type ℓ} (l : List A) (k : ℕ) (x : A) {n : ℕ} → n ≤ length l → n ≤ length (set l k x)
le_set l k x h = rw (length-set l k x) h

-- the same of the masks
pub mask_all : (Q : Message → ℕ → Type 0) (masks : List ℕ) (m : Message) (x : ℕ)
    → ((k : Message) → Q k (mask_at masks k)) → Q m x → (k : Message) → Q k (mask_at (set masks (message_place m) x) k)
mask_all Q masks m x old new k =
    set_all (λ (j y : ℕ). message_place k ≡ j → Q k y) masks (message_place m) x 0 (λ j q. rw (sym q) (old k)) (λ q. rw (same_message k m q) new) (message_place k) refl

-- messages

pub mask_inv : (r : Release) (m : Message) (x : ℕ) → Inv r
    → ((i : ℕ) → i < r.n → has i x ≡ true → Tells r.n (first_of r) i m) → Inv (with_mask m x r)
mask_inv r m x v new =
    record {
      sites_room = v.sites_room;
      logs_room = v.logs_room;
      knows = v.knows;
      ends = v.ends;
      pairs = v.pairs;
      coordinator_knows = v.coordinator_knows;
      tells = mask_all (λ k y. (i : ℕ) → i < r.n → has i y ≡ true → Tells r.n (first_of r) i k) r.messages m x v.tells new;
    }

send_inv : (r : Release) (m : Message) (i : ℕ) → Inv r → Tells r.n (first_of r) i m → Inv (send m i r)
send_inv r m i v new =
    mask_inv r m (insert i (mask_of r m)) v
    (λ j l h. has_insert_cases (λ x. Tells r.n (first_of r) x m) i j (mask_of r m) new (v.tells m j l) h)

pub take_out_inv : (r : Release) (m : Message) (i : ℕ) → Inv r → Inv (take_out m i r)
take_out_inv r m i v = mask_inv r m (remove i (mask_of r m)) v (λ j l h. v.tells m j l (has_remove i j (mask_of r m) h))

-- what participant i may send to the coordinator, and the coordinator to all

abbrev pub SentFits : ℕ → (ℕ → LogRecord) → ℕ → Option Message → Type 0
SentFits n F i Option.None = Unit {0}
SentFits n F i (Option.Some m) = Tells n F i m

abbrev pub BroadcastFits : ℕ → (ℕ → LogRecord) → Option Message → Type 0
BroadcastFits n F s = (i : ℕ) → i < n → SentFits n F i s

-- a participant's state, and the coordinator's

participant_inv : (r : Release) (i : ℕ) (p : Participant) → Inv r
    → Knows r.n (first_of r) i p → Ends p (last_of r i) → Inv (with_participant i p r)
participant_inv r i p v k e =
    record {
      sites_room = le_set r.sites i (record { participant = p }) v.sites_room;
      logs_room = v.logs_room;
      knows = set_all (λ (j : ℕ) (s : Site). j < r.n → Knows r.n (first_of r) j s.participant) r.sites i (record { participant = p }) waiting v.knows (λ _. k);
      ends = set_all (λ (j : ℕ) (s : Site). j < r.n → Ends s.participant (last_of r j)) r.sites i (record { participant = p }) waiting v.ends (λ _. e);
      pairs = v.pairs;
      coordinator_knows = v.coordinator_knows;
      tells = v.tells;
    }

coordinator_inv : (r : Release) (c : Coordinator) → Inv r → CoordinatorKnows r.n (first_of r) c → Inv (with_coordinator c r)
coordinator_inv r c v k =
    record {
      sites_room = v.sites_room;
      logs_room = v.logs_room;
      knows = v.knows;
      ends = v.ends;
      pairs = v.pairs;
      coordinator_knows = k;
      tells = v.tells;
    }

-- a log: what a store changes, where p is the participant whose log it is
pub record Change (n : ℕ) (F : ℕ → LogRecord) (p : Participant) (old new : LogPair) : Type 0 where
  pub keep : Keep old new
  pub allowed : Allowed n F new.first new.last
  pub ends : Ends p new.last

pub called_at : (r : Release) (p j : ℕ) (l : LogPair) → Inv r → j < r.n → log_of (called p j l r) j ≡ l
called_at r p j l v h = get_or-set_same r.store.logs j l empty (le_trans h v.logs_room)

pub called_keeps : (r : Release) (p j : ℕ) (l : LogPair) → Keep (log_of r j) l → Keeps (log_of r) (log_of (called p j l r))
called_keeps r p j l k =
    record { each = set_all (λ (i : ℕ) (x : LogPair). Keep (log_of r i) x) r.store.logs j l empty (λ i. keep_refl (log_of r i)) k }

pub called_inv : (r : Release) (p j : ℕ) (l : LogPair) → Inv r → Change r.n (first_of r) (participant_of r j) (log_of r j) l → Inv (called p j l r)
called_inv r p j l v ch =
    let k : Keeps (log_of r) (log_of (called p j l r)) = called_keeps r p j l ch.keep in
    record {
      sites_room = v.sites_room;
      logs_room = le_set r.store.logs j l v.logs_room;
      knows = λ i h. still r.n k (participant_claim i (participant_of r i)) (v.knows i h);
      ends = set_all (λ (i : ℕ) (x : LogPair). i < r.n → Ends (participant_of r i) x.last) r.store.logs j l empty v.ends (λ _. ch.ends);
      pairs = λ i h. still r.n k (log_claim (log_of (called p j l r) i).first (log_of (called p j l r) i).last) (set_all (λ (i : ℕ) (x : LogPair). i < r.n → Allowed r.n (first_of r) x.first x.last) r.store.logs j l empty v.pairs (λ _. ch.allowed) i h);
      coordinator_knows = still r.n k (coordinator_claim r.coordinator) v.coordinator_knows;
      tells = λ m i h b. still r.n k (message_claim i m) (v.tells m i h b);
    }

-- a step keeps the invariant, the votes and the recorded decisions, and its report is true

pub record Good (r : Release) (t : Report) : Type 0 where
  pub inv : Inv t.next
  pub same_n : t.next.n ≡ r.n
  pub keeps : Keeps (log_of r) (log_of t.next)
  pub backed : Backed t.next.n (first_of t.next) t.outcome

pub idle_good : (r : Release) → Inv r → Good r (idle r)
idle_good r v = record { inv = v; same_n = refl; keeps = keeps_refl (log_of r); backed = tt }

pub participant_good : (r : Release) (i : ℕ) (p : Participant) (s : Option Message) → Inv r
    → Knows r.n (first_of r) i p → Ends p (last_of r i) → SentFits r.n (first_of r) i s → Good r (participant_to i p s r)
unfolding participant_to
participant_good r i p s v k e = go s
  where
    told : Backed r.n (first_of r) (learnt (known (participant_of r i)) (known p))
    told = learnt_backed r.n (first_of r) (known (participant_of r i)) (known p) (known_backed r.n (first_of r) i p k)

    go : (s : Option Message) → SentFits r.n (first_of r) i s → Good r (participant_to i p s r)
    go Option.None f = record { inv = participant_inv r i p v k e; same_n = refl; keeps = keeps_refl (log_of r); backed = told }
    go (Option.Some m) f =
        record { inv = participant_inv (send m i r) i p (send_inv r m i v f) k e; same_n = refl; keeps = keeps_refl (log_of r); backed = told }

pub coordinator_good : (r : Release) (c : Coordinator) (s : Option Message) → Inv r
    → CoordinatorKnows r.n (first_of r) c → BroadcastFits r.n (first_of r) s → Good r (coordinator_to c s r)
unfolding coordinator_to
coordinator_good r c s v k = go s
  where
    told : Backed r.n (first_of r) (learnt (coordinator_known r.coordinator) (coordinator_known c))
    told = learnt_backed r.n (first_of r) (coordinator_known r.coordinator) (coordinator_known c) (coordinator_backed r.n (first_of r) c k)

    go : (s : Option Message) → BroadcastFits r.n (first_of r) s → Good r (coordinator_to c s r)
    go Option.None f = record { inv = coordinator_inv r c v k; same_n = refl; keeps = keeps_refl (log_of r); backed = told }
    go (Option.Some m) f =
        record {
          inv = coordinator_inv (send_all m r) c (mask_inv r m (full r.n) v (λ i l h. f i l)) k;
          same_n = refl;
          keeps = keeps_refl (log_of r);
          backed = told;
        }
