-- Demand 3 holds: of any list of steps from any release with the invariant, of any list from a fresh release, and across a cut. Assumes nothing.
use mathlib.Core.Path.{refl}
use mathlib.Core.Logic.{◌⊎◌, inl, inr}
use mathlib.Core.List.{List, [], ◌∷◌, ◌++◌}
use Prim.Native.Nat.{ℕ, ◌+◌, ◌≤◌, ◌<◌}
use native.Mathlib.Omega.{arith}
use borrow.Author.Tests.{le-leb}
use Rattle.kind.specs.Step.{AllInRange}
use Rattle.rules.specs.State.{participant_of, first_of, fresh}
use Rattle.rules.specs.Step.{step}
use Rattle.rules.specs.Run.{after}
use Rattle.rules.specs.Demand.{Up, Holds, answered, AllUndisturbed, Ready, Decides, Claims, DemandHolds, crashes, AllParties, CutHolds}
use Rattle.rules.specs.Types.{Step, Release}
use Rattle.rules.proofs.Invariant.{Inv}
use Rattle.rules.proofs.Agreement.{fresh_inv, range_left, range_right, range_append, Later, later, backed_after, decisions_agree}
use Rattle.rules.proofs.Rank.{rank}
use Rattle.rules.proofs.Progress.{progress}
use Rattle.rules.proofs.Readiness.{Undecided, undecided_or_holds, undecided_rank, up_rank, rank_up, holds_rank, ready}
use Rattle.rules.proofs.Unanimity.{no_abort_from, fresh_unanimous}

undisturbed_left : (i : ℕ) (r : Release) (xs ys : List Step) → AllUndisturbed i r (xs ++ ys) → AllUndisturbed i r xs
undisturbed_left i r [] ys h = tt
undisturbed_left i r (x ∷ xs) ys h = (h.0, undisturbed_left i (step r x).next xs ys h.1)

undisturbed_right : (i : ℕ) (r : Release) (xs ys : List Step) → AllUndisturbed i r (xs ++ ys) → AllUndisturbed i (after r xs) ys
undisturbed_right i r [] ys h = h
undisturbed_right i r (x ∷ xs) ys h = undisturbed_right i (step r x).next xs ys h.1

-- participant i is up in r and undisturbed during ys; the claims are about the point after ys
module _ (r : Release) (v : Inv r) (i : ℕ) (lt : i < r.n) (ys : List Step) (range : AllInRange r.n ys) (up : Up r i) (calm : AllUndisturbed i r ys) where
  abbrev cut : Release
  cut = after r ys

  reached : Later r cut
  reached = later r ys range v

  lt_cut : i < cut.n
  lt_cut = rw reached.same_n lt

  fewer : answered i r ys + rank r.n (participant_of cut i) ≤ rank r.n (participant_of r i)
  fewer = progress r i ys lt range v calm

  still_up : Up cut i
  still_up = rank_up r.n (participant_of cut i) (omega (arith, fewer, up_rank r.n (participant_of r i) up))

  -- a decision is held, or the participant has yet to make a call
  standing : Holds cut i ⊎ (1 ≤ rank r.n (participant_of cut i))
  standing = go (undecided_or_holds cut i (participant_of cut i) refl (reached.inv.ends i lt_cut) still_up)
    where
      go : Undecided (participant_of cut i) ⊎ Holds cut i → Holds cut i ⊎ (1 ≤ rank r.n (participant_of cut i))
      go (inl u) = inr (undecided_rank r.n i (first_of cut) (participant_of cut i) lt (rw reached.same_n at (reached.inv.knows i lt_cut)) u)
      go (inr h) = inl h

  at_most_n : (Holds cut i → ⊥) → (answered i r ys ≤ r.n) × Ready cut i
  at_most_n none = (go standing, ready cut i lt_cut reached.inv still_up none)
    where
      go : Holds cut i ⊎ (1 ≤ rank r.n (participant_of cut i)) → answered i r ys ≤ r.n
      go (inl h) = absurd (none h)
      go (inr h) = omega (arith, fewer, up_rank r.n (participant_of r i) up)

  -- a decision is held when as many calls were answered as the participant had left
  pub held_after : rank r.n (participant_of r i) ≤ answered i r ys → Holds cut i
  held_after all = go standing
    where
      go : Holds cut i ⊎ (1 ≤ rank r.n (participant_of cut i)) → Holds cut i
      go (inl h) = h
      go (inr h) = absurd (omega (arith, fewer))

  held_stays_held : Holds r i → Holds cut i
  held_stays_held held = go standing
    where
      go : Holds cut i ⊎ (1 ≤ rank r.n (participant_of cut i)) → Holds cut i
      go (inl h) = h
      go (inr h) = absurd (omega (arith, fewer, holds_rank r i r.n held))

decides_from : (r : Release) → Inv r → (i : ℕ) → i < r.n → (ys zs : List Step) → AllInRange r.n (ys ++ zs) → Up r i → AllUndisturbed i r (ys ++ zs) → Decides r i ys zs
decides_from r v i lt ys zs h up calm =
    let hy : AllInRange r.n ys = range_left r.n ys zs h in
    let cy : AllUndisturbed i r ys = undisturbed_left i r ys zs calm in
    let d : Later r (after r ys) = later r ys hy v in
    record {
      until = at_most_n r v i lt ys hy up cy;
      within = λ all. held_after r v i lt ys hy up cy (omega (arith, up_rank r.n (participant_of r i) up));
      kept =
          held_stays_held (after r ys) d.inv i (rw d.same_n lt) zs (rw d.same_n (range_right r.n ys zs h)) (still_up r v i lt ys hy up cy)
          (undisturbed_right i r ys zs calm);
    }

-- from any release with the invariant
pub claims_from : (r : Release) → Inv r → (steps : List Step) → AllInRange r.n steps → Claims r steps
claims_from r v steps h =
    record {
      agree = decisions_agree r steps h v;
      commit_backed = λ xs s ys q o. rw o at (backed_after r xs s ys (rw q at h) v);
      abort_backed = λ xs s ys q o. rw o at (backed_after r xs s ys (rw q at h) v);
      decides = λ i lt xs ys zs q up calm. decides_at i lt xs ys zs (rw q at h) up calm;
    }
  where
    decides_at : (i : ℕ) → i < r.n → (xs ys zs : List Step) → AllInRange r.n (xs ++ (ys ++ zs)) → Up (after r xs) i
        → AllUndisturbed i (after r xs) (ys ++ zs) → Decides (after r xs) i ys zs
    decides_at i lt xs ys zs g up calm =
        let c : Later r (after r xs) = later r xs (range_left r.n xs (ys ++ zs) g) v in
        decides_from (after r xs) c.inv i (rw c.same_n lt) ys zs (rw c.same_n (range_right r.n xs (ys ++ zs) g)) up calm

-- Demand 3
pub demand_holds : DemandHolds
demand_holds places n votes fits steps h =
    record {
      claims = claims_from (fresh places n votes) (fresh_inv places n votes fits) steps h;
      no_abort = λ q calm. no_abort_from (fresh places n votes) steps h calm (fresh_inv places n votes fits) (fresh_unanimous places n votes q);
    }

-- across a cut

crashes_in_range : (n : ℕ) (ps : List ℕ) → AllParties n ps → AllInRange n (crashes ps)
crashes_in_range n [] h = tt
crashes_in_range n (p ∷ ps) h = (le-leb p n h.0, crashes_in_range n ps h.1)

pub cut_holds : CutHolds
cut_holds places n votes fits before crashed rest hb hc hr =
    demand_holds places n votes fits (before ++ (crashes crashed ++ rest))
    (range_append n before (crashes crashed ++ rest) hb (range_append n (crashes crashed) rest (crashes_in_range n crashed hc) hr))
