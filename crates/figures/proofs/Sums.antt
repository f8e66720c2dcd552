-- Sums, largest numbers and first places of lists: one number more at the end, sums in another order, and what the first largest is. Assumes nothing.
use mathlib.Core.Path.{◌≡◌, refl, sym, ap, ◌∙◌}
use mathlib.Core.Logic.{◌⊎◌, inl, inr, ⊎_elim, ◌≢◌}
use mathlib.Core.Bool.{Bool, true, false, cond}
use mathlib.Core.List.{List, [], ◌∷◌, ◌++◌, map}
use Prim.Native.Nat.{ℕ, zero, suc, ◌+◌, ◌-◌, ◌≤◌, ◌<◌}
use native.Mathlib.Omega.{arith}
use lib.Dec.{eqb, ltb}
use lib.ListN.{length, get_or, take}
use borrow.Author.Tests.{ltb-true, ltb-false, lt-ltb, le-ltb, eqb-true, eqb-false, eq-eqb, ne_eqb}
use Rattle.number.specs.Table.{tabulate}
use Rattle.number.proofs.Table.{length_tabulate, get_d_tabulate, tabulate_list}
use Rattle.figures.specs.Sums.{sum, larger, largest, first_place}
use Rattle.figures.specs.Promises.{FirstLargest}

-- One number more

pub sum_more : (l : List ℕ) (x : ℕ) → sum (l ++ (x ∷ [])) ≡ sum l + x
unfolding sum
sum_more [] x = omega arith
sum_more (y ∷ l) x = omega (arith, sum_more l x)

-- Tables of numbers

pub table_same : (k : ℕ) (f g : ℕ → ℕ) → ((i : ℕ) → i < k → f i ≡ g i) → tabulate k f ≡ tabulate k g
table_same k f g h = tabulate_list k f (tabulate k g) 0 (length_tabulate k g) (λ i l. h i l ∙ sym (get_d_tabulate k g i 0 l))

pub sum_add : (k : ℕ) (f g : ℕ → ℕ) → sum (tabulate k (λ p. f p + g p)) ≡ sum (tabulate k f) + sum (tabulate k g)
unfolding sum tabulate
sum_add zero f g = refl
sum_add (suc k) f g = omega (arith, sum_add k (λ p. f (suc p)) (λ p. g (suc p)))

pub sum_none : (k : ℕ) (f : ℕ → ℕ) → ((p : ℕ) → f p ≡ 0) → sum (tabulate k f) ≡ 0
unfolding sum tabulate
sum_none zero f none = refl
sum_none (suc k) f none = omega (arith, none 0, sum_none k (λ p. f (suc p)) (λ p. none (suc p)))

-- nothing but at a single place
pub sum_at : (k : ℕ) (f : ℕ → ℕ) (q : ℕ) → q < k → ((p : ℕ) → p ≢ q → f p ≡ 0) → sum (tabulate k f) ≡ f q
unfolding sum tabulate
sum_at zero f q small none = absurd (omega arith)
sum_at (suc k) f zero small none = omega (arith, sum_none k (λ p. f (suc p)) (λ p. none (suc p) (λ e. omega (arith, e))))
sum_at (suc k) f (suc q) small none =
    omega (arith, none 0 (λ e. omega (arith, e)), sum_at k (λ p. f (suc p)) q (omega arith) (λ p ne. none (suc p) (λ e. ne (omega (arith, e)))))

-- rows of numbers, added by places and then together, or row by row
pub sum_exchange : {A : Type 0} (k : ℕ) (f : A → ℕ → ℕ) (l : List A) → sum (tabulate k (λ p. sum (map (λ x. f x p) l))) ≡ sum (map (λ x. sum (tabulate k (f x))) l)
unfolding sum
sum_exchange k f [] = sum_none k (λ p. 0) (λ p. refl)
sum_exchange k f (x ∷ l) = sum_add k (f x) (λ p. sum (map (λ y. f y p) l)) ∙ ap (λ n. sum (tabulate k (f x)) + n) (sum_exchange k f l)

-- nothing but at the first places
pub sum_front : (k : ℕ) (l : List ℕ) → ((i : ℕ) → k ≤ i → get_or l i 0 ≡ 0) → sum (take k l) ≡ sum l
unfolding sum
sum_front zero [] none = refl
sum_front zero (x ∷ l) none = omega (arith, none 0 (omega arith), sum_front zero l (λ i h. none (suc i) (omega arith)))
sum_front (suc k) [] none = refl
sum_front (suc k) (x ∷ l) none = ap (λ n. x + n) (sum_front k l (λ i h. none (suc i) (omega arith)))

-- The largest

pub larger_cases : (a b : ℕ) → ((a < b) × (larger a b ≡ b)) ⊎ ((b ≤ a) × (larger a b ≡ a))
larger_cases a b = go (ltb a b) refl
  where
    go : (t : Bool) → ltb a b ≡ t → ((a < b) × (cond t b a ≡ b)) ⊎ ((b ≤ a) × (cond t b a ≡ a))
    go true q = inl (ltb-true a b q, refl)
    go false q = inr (ltb-false a b q, refl)

larger_right : (a b : ℕ) → a < b → larger a b ≡ b
larger_right a b h = ap (λ t. cond t b a) (lt-ltb a b h)

larger_left : (a b : ℕ) → b ≤ a → larger a b ≡ a
larger_left a b h = ap (λ t. cond t b a) (le-ltb a b h)

pub larger_le : (a b : ℕ) → (a ≤ larger a b) × (b ≤ larger a b)
larger_le a b = ⊎_elim (λ x. (omega (arith, x.0, x.1), omega (arith, x.0, x.1))) (λ x. (omega (arith, x.0, x.1), omega (arith, x.0, x.1))) (larger_cases a b)

larger_assoc : (a b c : ℕ) → larger a (larger b c) ≡ larger (larger a b) c
larger_assoc a b c = go (ltb a b) refl (ltb b c) refl
  where
    go : (p : Bool) → ltb a b ≡ p → (q : Bool) → ltb b c ≡ q → larger a (cond q c b) ≡ larger (cond p b a) c
    go true e true f = let x = ltb-true a b e in let y = ltb-true b c f in larger_right a c (omega (arith, x, y)) ∙ sym (larger_right b c y)
    go true e false f = larger_right a b (ltb-true a b e) ∙ sym (larger_left b c (ltb-false b c f))
    go false e true f = refl
    go false e false f = let x = ltb-false a b e in let y = ltb-false b c f in larger_left a b x ∙ sym (larger_left a c (omega (arith, x, y)))

pub largest_more : (l : List ℕ) (x : ℕ) → largest (l ++ (x ∷ [])) ≡ larger (largest l) x
unfolding largest
largest_more [] x = larger_left x 0 (omega arith) ∙ ⊎_elim (λ e. sym e.1) (λ e. omega (arith, e.0, e.1)) (larger_cases 0 x)
largest_more (y ∷ l) x = ap (larger y) (largest_more l x) ∙ larger_assoc y (largest l) x

pub none_above : (l : List ℕ) (i : ℕ) → get_or l i 0 ≤ largest l
unfolding largest
none_above [] i = omega arith
none_above (x ∷ l) zero = (larger_le x (largest l)).0
none_above (x ∷ l) (suc i) = omega (arith, none_above l i, (larger_le x (largest l)).1)

pub largest_sum : (l : List ℕ) → largest l ≤ sum l
unfolding largest sum
largest_sum [] = omega arith
largest_sum (x ∷ l) = ⊎_elim (λ e. omega (arith, e.1, largest_sum l)) (λ e. omega (arith, e.1, largest_sum l)) (larger_cases x (largest l))

-- no number is more than all of them
pub each_le_sum : (l : List ℕ) (i : ℕ) → get_or l i 0 ≤ sum l
each_le_sum l i = omega (arith, none_above l i, largest_sum l)

-- First places

-- a number above all others is at the end
beyond : (l : List ℕ) (k : ℕ) → largest l < k → first_place k (l ++ (k ∷ [])) ≡ length l + 1
unfolding largest first_place
beyond [] k h = rw (eq-eqb k k refl) (omega arith)
beyond (y ∷ l) k h =
    let le = larger_le y (largest l) in
    rw (ne_eqb y k (λ e. omega (arith, e, le.0))) (omega (arith, beyond l k (omega (arith, le.1))))

-- the largest is there already, so one that is not above it changes nothing
same_place : (l : List ℕ) (k : ℕ) (r : List ℕ) (y : ℕ) → k ≡ largest (y ∷ l) → first_place k ((y ∷ l) ++ r) ≡ first_place k (y ∷ l)
unfolding largest first_place
same_place [] k r y e = rw (eq-eqb y k (⊎_elim (λ x. omega (arith, x.0)) (λ x. omega (arith, x.1, e)) (larger_cases y 0))) refl
same_place (z ∷ l) k r y e = go (eqb y k) refl (same_place l k r z)
  where
    go : (b : Bool) → eqb y k ≡ b → (k ≡ largest (z ∷ l) → first_place k ((z ∷ l) ++ r) ≡ first_place k (z ∷ l))
        → cond b 1 (suc (first_place k ((z ∷ l) ++ r))) ≡ cond b 1 (suc (first_place k (z ∷ l)))
    go true q ih = refl
    go false q ih = ap suc (ih (⊎_elim (λ x. omega (arith, x.1, e)) (λ x. absurd (eqb-false y k q (omega (arith, x.1, e)))) (larger_cases y (largest (z ∷ l)))))

pub first_more : (l : List ℕ) (x : ℕ)
    → first_place (largest (l ++ (x ∷ []))) (l ++ (x ∷ [])) ≡ cond (eqb (length l) 0) 1 (cond (ltb (largest l) x) (length l + 1) (first_place (largest l) l))
unfolding first_place largest
first_more [] x = rw (largest_more [] x, eq-eqb x (larger 0 x) (⊎_elim (λ a. sym a.1) (λ a. omega (arith, a.0, a.1)) (larger_cases 0 x))) refl
first_more (y ∷ l) x =
    ap (λ k. first_place k ((y ∷ l) ++ (x ∷ []))) (largest_more (y ∷ l) x)
    ∙ go (ltb (largest (y ∷ l)) x) refl
    ∙ sym (ap (λ b. cond b 1 (cond (ltb (largest (y ∷ l)) x) (length (y ∷ l) + 1) (first_place (largest (y ∷ l)) (y ∷ l)))) (ne_eqb (length (y ∷ l)) 0 (λ e. omega (arith, e))))
  where
    go : (b : Bool) → ltb (largest (y ∷ l)) x ≡ b
        → first_place (cond b x (largest (y ∷ l))) ((y ∷ l) ++ (x ∷ [])) ≡ cond b (length (y ∷ l) + 1) (first_place (largest (y ∷ l)) (y ∷ l))
    go true q = beyond (y ∷ l) x (ltb-true (largest (y ∷ l)) x q)
    go false q = same_place l (largest (y ∷ l)) (x ∷ []) y refl

pub first_few : (k : ℕ) (l : List ℕ) → first_place k l ≤ length l
unfolding first_place
first_few k [] = omega arith
first_few k (x ∷ l) = go (eqb x k) (first_few k l)
  where
    go : (b : Bool) → first_place k l ≤ length l → cond b 1 (suc (first_place k l)) ≤ suc (length l)
    go true h = omega arith
    go false h = omega arith

-- the first such number is there, and those before it are others
found_first : (k : ℕ) (l : List ℕ) (i : ℕ) → get_or l i 0 ≡ k → i < length l
    → (0 < first_place k l) × (get_or l (first_place k l - 1) 0 ≡ k) × ((j : ℕ) → suc j < first_place k l → get_or l j 0 ≢ k)
unfolding first_place
found_first k [] i e h = absurd (omega arith)
found_first k (x ∷ l) i e h = go (eqb x k) refl i e h (found_first k l)
  where
    go : (b : Bool) → eqb x k ≡ b → (i : ℕ) → get_or (x ∷ l) i 0 ≡ k → i < suc (length l)
        → ((i : ℕ) → get_or l i 0 ≡ k → i < length l → (0 < first_place k l) × (get_or l (first_place k l - 1) 0 ≡ k) × ((j : ℕ) → suc j < first_place k l → get_or l j 0 ≢ k))
        → (0 < cond b 1 (suc (first_place k l))) × (get_or (x ∷ l) (cond b 1 (suc (first_place k l)) - 1) 0 ≡ k)
        × ((j : ℕ) → suc j < cond b 1 (suc (first_place k l)) → get_or (x ∷ l) j 0 ≢ k)
    go true q i e h ih = (omega arith, eqb-true x k q, λ j l e. omega (arith, l))
    go false q zero e h ih = absurd (eqb-false x k q e)
    go false q (suc i) e h ih =
        let y = ih i e (omega arith) in
        let there : suc (first_place k l) - 1 ≡ suc (first_place k l - 1) = omega (arith, y.0) in
        (omega arith, rw there y.1, before y)
      where
        before : (0 < first_place k l) × (get_or l (first_place k l - 1) 0 ≡ k) × ((j : ℕ) → suc j < first_place k l → get_or l j 0 ≢ k)
            → (j : ℕ) → suc j < suc (first_place k l) → get_or (x ∷ l) j 0 ≢ k
        before y zero h e = eqb-false x k q e
        before y (suc j) h e = y.2 j (omega arith) e

-- the largest is somewhere
largest_at : (x : ℕ) (l : List ℕ) → (i : ℕ) × (get_or (x ∷ l) i 0 ≡ largest (x ∷ l)) × (i < length (x ∷ l))
unfolding largest
largest_at x [] = (0, sym (larger_left x 0 (omega arith)), omega arith)
largest_at x (y ∷ l) =
    let z = largest_at y l in
    ⊎_elim {C = (i : ℕ) × (get_or (x ∷ y ∷ l) i 0 ≡ larger x (largest (y ∷ l))) × (i < length (x ∷ y ∷ l))}
    (λ e. (suc z.0, z.1 ∙ sym e.1, omega (arith, z.2))) (λ e. (0, sym e.1, omega arith)) (larger_cases x (largest (y ∷ l)))

pub first_largest : (x : ℕ) (l : List ℕ) → FirstLargest (x ∷ l) (largest (x ∷ l)) (first_place (largest (x ∷ l)) (x ∷ l))
first_largest x l =
    let z = largest_at x l in
    let y = found_first (largest (x ∷ l)) (x ∷ l) z.0 z.1 z.2 in
    record {
      counted = (y.0, first_few (largest (x ∷ l)) (x ∷ l));
      there = y.1;
      none_above = none_above (x ∷ l);
      fewer_before = λ i h. let ne = y.2 i h in let le = none_above (x ∷ l) i in omega (arith, ne, le);
    }
