-- How a loop over places fills an array, and how one tests them. Assumes nothing.
use mathlib.Core.Path.{◌≡◌, refl, sym, ap, ap₂, ◌∙◌}
use mathlib.Core.Bool.{Bool, true, false}
use mathlib.Core.List.{List, [], ◌∷◌}
use Prim.Native.Nat.{ℕ, zero, suc, ◌+◌, ◌≤◌, ◌<◌}
use native.Mathlib.Numerals.{add-one}
use native.Mathlib.Omega.{arith}
use native.Mathlib.Decide.{ℕ_discrete}
use lib.ListN.{length, get_or, set}
use Rattle.number.proofs.Laws.{and_left, and_right, and_true, and_false, false_and}
use Rattle.number.specs.Table.{tabulate, every}

-- the first i elements are those of f, the rest as they were
abbrev pub up_to : {A : Type 0} → ℕ → (ℕ → A) → List A → List A
up_to zero f l = l
up_to (suc i) f [] = []
up_to (suc i) f (x ∷ l) = f 0 ∷ up_to i (λ j. f (suc j)) l

up_to_set : {A : Type 0} (i : ℕ) (f : ℕ → A) (l : List A) → set (up_to i f l) i (f i) ≡ up_to (suc i) f l
up_to_set zero f [] = refl
up_to_set zero f (x ∷ l) = refl
up_to_set (suc i) f [] = refl
up_to_set {A} (suc i) f (x ∷ l) = ap {B = List A} (λ r. f 0 ∷ r) (up_to_set i (λ j. f (suc j)) l)

-- one element more
pub up_to_next : {A : Type 0} (i : ℕ) (f : ℕ → A) (l s : List A) (x : A) → s ≡ up_to i f l → x ≡ f i → set s i x ≡ up_to (i + 1) f l
up_to_next i f l s x p q = rw (p, q, add-one i) (up_to_set i f l)

-- the element that comes next is as it was
pub up_to_here : {A : Type 0} (i : ℕ) (f : ℕ → A) (l : List A) (d : A) → get_or (up_to i f l) i d ≡ get_or l i d
up_to_here zero f l d = refl
up_to_here (suc i) f [] d = refl
up_to_here (suc i) f (x ∷ l) d = up_to_here i (λ j. f (suc j)) l d

up_to_length : {A : Type 0} (f : ℕ → A) (l : List A) → up_to (length l) f l ≡ tabulate (length l) f
unfolding tabulate
up_to_length f [] = refl
up_to_length {A} f (x ∷ l) = ap {B = List A} (λ r. f 0 ∷ r) (up_to_length (λ j. f (suc j)) l)

-- all of them
pub up_to_done : {A : Type 0} (k i : ℕ) (f : ℕ → A) (l s : List A) → i ≤ k → k ≤ i → length l ≡ k → s ≡ up_to i f l → s ≡ tabulate k f
up_to_done k i f l s h g q p =
    let e : i ≡ length l = omega arith in p ∙ ap (λ (j : ℕ). up_to j f l) e ∙ up_to_length f l ∙ ap (λ (j : ℕ). tabulate j f) q

pub length_tabulate : {A : Type 0} (k : ℕ) (f : ℕ → A) → length (tabulate k f) ≡ k
unfolding tabulate
length_tabulate zero f = refl
length_tabulate (suc k) f = ap suc (length_tabulate k (λ i. f (suc i)))

pub get_d_tabulate : {A : Type 0} (k : ℕ) (f : ℕ → A) (i : ℕ) (d : A) → i < k → get_or (tabulate k f) i d ≡ f i
unfolding tabulate
get_d_tabulate zero f i d h = absurd (omega arith)
get_d_tabulate (suc k) f zero d h = refl
get_d_tabulate (suc k) f (suc i) d h = get_d_tabulate k (λ j. f (suc j)) i d (omega arith)

-- a list is the table of whatever agrees with its elements
table_of : {A : Type 0} (f : ℕ → A) (l : List A) (d : A) → ((i : ℕ) → i < length l → f i ≡ get_or l i d) → tabulate (length l) f ≡ l
unfolding tabulate
table_of f [] d h = refl
table_of {A} f (x ∷ l) d h = ap₂ (λ (y : A) (r : List A). y ∷ r) (h 0 (omega arith)) (table_of (λ i. f (suc i)) l d (λ i g. h (suc i) (omega arith)))

pub tabulate_list : {A : Type 0} (k : ℕ) (f : ℕ → A) (l : List A) (d : A) → length l ≡ k → ((i : ℕ) → i < k → f i ≡ get_or l i d) → tabulate k f ≡ l
tabulate_list k f l d q h = rw (← q) (table_of f l d (λ i g. h i (omega arith)))

-- a test of one place more, of all, and one that fails

pub every_next : (test : ℕ → Bool) (i : ℕ) → every test i ≡ true → test i ≡ true → every test (i + 1) ≡ true
unfolding every
every_next test i p q = rw (add-one i) (and_true (every test i) (test i) p q)

pub every_done : (test : ℕ → Bool) (k i : ℕ) → i ≤ k → k ≤ i → every test i ≡ true → true ≡ every test k
every_done test k i h g q = let e : i ≡ k = omega arith in sym q ∙ ap (every test) e

pub every_fails : (test : ℕ → Bool) (k i : ℕ) → i < k → test i ≡ false → every test k ≡ false
unfolding every
every_fails test zero i h q = absurd (omega arith)
every_fails test (suc k) i h q = go (ℕ_discrete i k) (λ g. every_fails test k i g q)
  where
    go : Dec (i ≡ k) → (i < k → every test k ≡ false) → every test (suc k) ≡ false
    go (yes e) ih = and_false (every test k) (test k) (rw (← e) q)
    go (no ne) ih = false_and (every test k) (test k) (ih (omega arith))

-- what all places passed, each has
pub every_at : (test : ℕ → Bool) (k i : ℕ) → i < k → every test k ≡ true → test i ≡ true
unfolding every
every_at test zero i h q = absurd (omega arith)
every_at test (suc k) i h q = go (ℕ_discrete i k) (λ g. every_at test k i g (and_left (every test k) (test k) q))
  where
    go : Dec (i ≡ k) → (i < k → test i ≡ true) → test i ≡ true
    go (yes e) ih = rw e (and_right (every test k) (test k) q)
    go (no ne) ih = ih (omega arith)

pub every_all : (test : ℕ → Bool) (k : ℕ) → ((i : ℕ) → i < k → test i ≡ true) → every test k ≡ true
unfolding every
every_all test zero h = refl
every_all test (suc k) h = and_true (every test k) (test k) (every_all test k (λ i g. h i (omega arith))) (h k (omega arith))
