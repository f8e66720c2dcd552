-- Demand 3, first part: over a whole list the reported decisions agree, and the logs bear them out. From any release with the invariant.
-- Assumes nothing.
use mathlib.Core.Path.{◌≡◌, refl, ◌∙◌}
use mathlib.Core.Logic.{◌≢◌, ◌⊎◌, inl, inr}
use mathlib.Core.List.Memᴰ
use mathlib.Core.List.{List, [], ◌∷◌, ◌++◌}
use Prim.Native.Nat.{ℕ, zero, suc, ◌≤◌}
use native.Mathlib.Omega.{arith}
use lib.ListN.{get_or, replicate, length-replicate}
use Rattle.kind.specs.Step.{AllInRange}
use Rattle.mask.proofs.Laws.{has_zero}
use Rattle.store.specs.Log.{empty}
use Rattle.rules.specs.State.{first_of, last_of, log_of, mask_of, waiting, fresh}
use Rattle.rules.specs.Step.{step}
use Rattle.rules.specs.Run.{after}
use Rattle.rules.specs.Demand.{Reported}
use Rattle.rules.specs.Types.{LogRecord, None, Commit, LogPair, Message, Site, Step, Outcome, Release}
use Rattle.rules.proofs.FirstRecords.{Keeps, keeps_refl, keeps_trans, still, excluded, true_false}
use Rattle.rules.proofs.Invariant.{Knows, Ends, Allowed, Inv, Backed, outcome_claim}
use Rattle.rules.proofs.Updates.{Good}
use Rattle.rules.proofs.Safety.{step_good}

-- the fresh release has the invariant

pub replicate_all {ℓ} : {A : Type ℓ} (Q : A → Type 0) (n i : ℕ) (x : A) → Q x → Q (get_or (replicate n x) i x)
replicate_all Q zero i x q = q
replicate_all Q (suc n) zero x q = q
replicate_all Q (suc n) (suc i) x q = replicate_all Q n i x q

module _ (places n votes : ℕ) where
  -- no message is in flight
  pub fresh_mask : (m : Message) → mask_of (fresh places n votes) m ≡ 0
  fresh_mask Message.Request = refl
  fresh_mask Message.ReplyYes = refl
  fresh_mask Message.ReplyAbort = refl
  fresh_mask Message.Commit = refl
  fresh_mask Message.Abort = refl

  pub fresh_inv : n ≤ places → Inv (fresh places n votes)
  fresh_inv h =
      let F : ℕ → LogRecord = first_of (fresh places n votes) in
      record {
        sites_room = rw (length-replicate places waiting) h;
        logs_room = rw (length-replicate places empty) h;
        knows = λ i l. replicate_all (λ (s : Site). Knows n F i s.participant) places i waiting tt;
        ends = λ i l. replicate_all (λ (s : Site). Ends s.participant (last_of (fresh places n votes) i)) places i waiting
            (replicate_all (λ (x : LogPair). x.last ≢ Commit) places i empty differ);
        pairs = λ i l. replicate_all (λ (x : LogPair). Allowed n F x.first x.last) places i empty tt;
        coordinator_knows = tt;
        tells = λ m i l b. absurd (true_false b (rw (fresh_mask m) (has_zero i)));
      }
    where
      differ : None ≢ Commit
      differ q = let z : ◌≡◌ {A = ℕ} 0 1 = cc in omega arith

-- lists in two parts

pub after_append : (r : Release) (xs ys : List Step) → after r (xs ++ ys) ≡ after (after r xs) ys
after_append r [] ys = refl
after_append r (x ∷ xs) ys = after_append (step r x).next xs ys

pub range_left : (n : ℕ) (xs ys : List Step) → AllInRange n (xs ++ ys) → AllInRange n xs
range_left n [] ys h = tt
range_left n (x ∷ xs) ys h = (h.0, range_left n xs ys h.1)

pub range_right : (n : ℕ) (xs ys : List Step) → AllInRange n (xs ++ ys) → AllInRange n ys
range_right n [] ys h = h
range_right n (x ∷ xs) ys h = range_right n xs ys h.1

pub range_append : (n : ℕ) (xs ys : List Step) → AllInRange n xs → AllInRange n ys → AllInRange n (xs ++ ys)
range_append n [] ys g h = h
range_append n (x ∷ xs) ys g h = (g.0, range_append n xs ys g.1 h)

-- a release that a list of steps leads to

pub record Later (r t : Release) : Type 0 where
  pub inv : Inv t
  pub same_n : t.n ≡ r.n
  pub keeps : Keeps (log_of r) (log_of t)

pub later : (r : Release) (ss : List Step) → AllInRange r.n ss → Inv r → Later r (after r ss)
later r [] h v = record { inv = v; same_n = refl; keeps = keeps_refl (log_of r) }
later r (s ∷ ss) h v =
    let g : Good r (step r s) = step_good r s h.0 v in
    let l : Later (step r s).next (after (step r s).next ss) = later (step r s).next ss (rw g.same_n h.1) g.inv in
    record { inv = l.inv; same_n = l.same_n ∙ g.same_n; keeps = keeps_trans g.keeps l.keeps }

-- what a step reports is backed after that step
pub backed_after : (r : Release) (xs : List Step) (s : Step) (ys : List Step) → AllInRange r.n (xs ++ (s ∷ ys)) → Inv r
    → Backed r.n (first_of (step (after r xs) s).next) (step (after r xs) s).outcome
backed_after r xs s ys h v =
    let c : Later r (after r xs) = later r xs (range_left r.n xs (s ∷ ys) h) v in
    let g : Good (after r xs) (step (after r xs) s) =
    step_good (after r xs) s (rw c.same_n (range_right r.n xs (s ∷ ys) h).0) c.inv in
    let w : (step (after r xs) s).next.n ≡ r.n = g.same_n ∙ c.same_n in
    rw w at g.backed

-- and still at the end
reported_backed : (r : Release) (ss : List Step) (o : Outcome) → AllInRange r.n ss → Inv r → Reported o r ss → Backed r.n (first_of (after r ss)) o
reported_backed r [] o h v m = absurd (Memᴰ.not-nil m)
reported_backed r (s ∷ ss) o h v m = go (Memᴰ.cases_cons m) (reported_backed (step r s).next ss o)
  where
    g : Good r (step r s)
    g = step_good r s h.0 v

    rest : AllInRange (step r s).next.n ss
    rest = rw g.same_n h.1

    go : (o ≡ (step r s).outcome) ⊎ Reported o (step r s).next ss
        → (AllInRange (step r s).next.n ss → Inv (step r s).next → Reported o (step r s).next ss
        → Backed (step r s).next.n (first_of (after (step r s).next ss)) o)
        → Backed r.n (first_of (after (step r s).next ss)) o
    go (inl q) ih = still r.n (later (step r s).next ss rest g.inv).keeps (outcome_claim o) (rw q (rw g.same_n at g.backed))
    go (inr k) ih = rw g.same_n at (ih rest g.inv k)

-- no two reported decisions differ
pub decisions_agree : (r : Release) (ss : List Step) → AllInRange r.n ss → Inv r → Reported Outcome.Commit r ss → Reported Outcome.Abort r ss → ⊥
decisions_agree r ss h v c a = excluded (reported_backed r ss Outcome.Commit h v c) (reported_backed r ss Outcome.Abort h v a)
