-- The order of bytes: of what goes on alike, of what begins alike, and of nothing with itself. A test of it. Assumes nothing.
use mathlib.Core.Path.{◌≡◌, refl, sym}
use mathlib.Core.Logic.{inl, inr, ⊎_elim}
use mathlib.Core.Bool.{Bool, true, false, true≢false, ◌&&◌, ◌||◌}
use mathlib.Core.List.{List, [], ◌∷◌, ◌++◌}
use Prim.Native.Nat.{ℕ}
use native.Mathlib.Omega.{arith}
use lib.Dec.{eqb, ltb}
use borrow.Author.Tests.{eqb-true, ltb-true}
use Rattle.number.proofs.Laws.{and_left, and_right}
use Rattle.exercises.specs.Promises.{Below}

pub below_before : (xs ys us vs : List ℕ) → Below xs ys → Below (xs ++ us) (ys ++ vs)
below_before [] ys us vs h = absurd h
below_before (x ∷ xs) [] us vs h = absurd h
below_before (x ∷ xs) (y ∷ ys) us vs h =
    ⊎_elim {C = Below (x ∷ (xs ++ us)) (y ∷ (ys ++ vs))} (λ l. inl l) (λ e. inr (e.0, below_before xs ys us vs e.1)) h

pub below_after : (p us vs : List ℕ) → Below us vs → Below (p ++ us) (p ++ vs)
below_after [] us vs h = h
below_after (x ∷ p) us vs h = inr (refl, below_after p us vs h)

pub below_self : (xs : List ℕ) → Below xs xs → ⊥
below_self [] h = h
below_self (x ∷ xs) h = ⊎_elim (λ l. omega arith) (λ e. below_self xs e.1) h

abbrev pub is_below : List ℕ → List ℕ → Bool
is_below [] ys = false
is_below (x ∷ xs) [] = false
is_below (x ∷ xs) (y ∷ ys) = ltb x y || (eqb x y && is_below xs ys)

pub is_below_lem : (xs ys : List ℕ) → is_below xs ys ≡ true → Below xs ys
is_below_lem [] ys h = absurd (true≢false (sym h))
is_below_lem (x ∷ xs) [] h = absurd (true≢false (sym h))
is_below_lem (x ∷ xs) (y ∷ ys) h = go (ltb x y) refl (λ k. is_below_lem xs ys k) h
  where
    go : (a : Bool) → ltb x y ≡ a → (is_below xs ys ≡ true → Below xs ys) → a || (eqb x y && is_below xs ys) ≡ true → Below (x ∷ xs) (y ∷ ys)
    go true p f h = inl (ltb-true x y p)
    go false p f h = inr (eqb-true x y (and_left (eqb x y) _ h), f (and_right (eqb x y) _ h))
