-- Bytes put one after the other: two parts, and a loop over a list. Assumes nothing.
use mathlib.Core.Path.{◌≡◌, refl, sym, ap, ap₂, subst, ◌∙◌}
use mathlib.Core.List.{List, [], ◌∷◌, ◌++◌, append-nil, append_assoc}
use Prim.Native.Nat.{ℕ, zero, suc, ◌+◌, ◌*◌, ◌≤◌, ◌<◌}
use native.Mathlib.Nat.{add-zero, zero-mul, suc-mul, mul-suc}
use native.Mathlib.Numerals.{add-one}
use native.Mathlib.Omega.{arith}
use lib.ListN.{length, get_or, take, drop, length-append, drop_of_length-le}
use lib.Seq.{sets, length-sets, sets-eq, take_at, drop-cons}
use Rattle.number.proofs.Lists.{sets_append}
use Rattle.text.specs.Put.{Put, each}

-- some, and then others
pub put_then : {before between after xs ys : List ℕ} {place middle end : ℕ}
    → Put before place xs middle between → Put between middle ys end after → Put before place (xs ++ ys) end after
put_then {before} {between} {after} {xs} {ys} {place} {middle} {end} x y =
    record {
      ends = omega (arith, x.ends, y.ends, length-append xs ys);
      leaves = y.leaves ∙ ap₂ (λ (l : List ℕ) (i : ℕ). sets l i ys) x.leaves x.ends ∙ sym (sets_append before place xs ys);
    }

pub put_same : {before after xs ys : List ℕ} {place end : ℕ} → xs ≡ ys → Put before place xs end after → Put before place ys end after
put_same {before} {after} {xs} {ys} {place} {end} e x = subst (λ l. Put before place l end after) e x

-- what was put at the front of a buffer stands there
pub put_front : {before after bytes : List ℕ} {end : ℕ} → Put before 0 bytes end after → length bytes ≤ length before → take end after ≡ bytes
put_front {before} {after} {bytes} {end} p fits =
    ap (take end) (p.leaves ∙ sets-eq bytes before 0 (omega arith)) ∙ take_at bytes (drop (0 + length bytes) before) end (omega (arith, p.ends))

-- the bytes of each element of two lists, and of one element more

pub each_append : {A : Type 0} (f : A → List ℕ) (xs ys : List A) → each f (xs ++ ys) ≡ each f xs ++ each f ys
unfolding each
each_append f [] ys = refl
each_append f (x ∷ xs) ys = ap (λ l. f x ++ l) (each_append f xs ys) ∙ sym (append_assoc (f x) (each f xs) (each f ys))

pub each_more : {A : Type 0} (f : A → List ℕ) (xs : List A) (x : A) → each f (xs ++ (x ∷ [])) ≡ each f xs ++ f x
unfolding each
each_more f xs x = each_append f xs (x ∷ []) ∙ ap (λ l. each f xs ++ l) (append-nil (f x))

-- each of one length
pub each_length : {A : Type 0} (f : A → List ℕ) (m : ℕ) → ((x : A) → length (f x) ≡ m) → (xs : List A) → length (each f xs) ≡ length xs * m
unfolding each
each_length f m h [] = sym (zero-mul m)
each_length f m h (x ∷ xs) = length-append (f x) (each f xs) ∙ omega (arith, h x, each_length f m h xs, suc-mul (length xs) m)

-- the first n, each of at most so many bytes
pub each_few : {A : Type 0} (f : A → List ℕ) (d : A) (most n : ℕ) (xs : List A) → ((i : ℕ) → length (f (get_or xs i d)) ≤ most)
    → length (each f (take n xs)) ≤ most * n
unfolding each
each_few f d most zero xs few = omega arith
each_few f d most (suc n) [] few = omega arith
each_few f d most (suc n) (x ∷ xs) few =
    omega (arith, few 0, each_few f d most n xs (λ i. few (suc i)), length-append (f x) (each f (take n xs)), mul-suc most n)

-- A loop that puts the bytes of each element

-- before element i, with `at` the place after those before: what is left gives what the whole gives
pub record Putting {A : Type 0} (f : A → List ℕ) (xs : List A) (out₀ : List ℕ) (place : ℕ) (out : List ℕ) (at i : ℕ) : Type 0 where
  pub same : length out ≡ length out₀
  pub end : at + length (each f (drop i xs)) ≡ place + length (each f xs)
  pub rest : sets out at (each f (drop i xs)) ≡ sets out₀ place (each f xs)

module _ {A : Type 0} (f : A → List ℕ) (xs : List A) (out₀ : List ℕ) (place : ℕ) where
  pub put_none : Putting f xs out₀ place out₀ place 0
  put_none = record { same = refl; end = refl; rest = refl }

  module _ (out : List ℕ) (at i : ℕ) (g : Putting f xs out₀ place out at i) where
    module _ (d : A) (some : i < length xs) where
      first : each f (drop i xs) ≡ f (get_or xs i d) ++ each f (drop (suc i) xs)
      unfolding each
      first = ap (each f) (drop-cons xs i d some)

      long : length (each f (drop i xs)) ≡ length (f (get_or xs i d)) + length (each f (drop (suc i) xs))
      long = ap length first ∙ length-append (f (get_or xs i d)) (each f (drop (suc i) xs))

      pub put_room : at + length (f (get_or xs i d)) ≤ place + length (each f xs)
      put_room = omega (arith, long, g.end)

      pub put_next : Putting f xs out₀ place (sets out at (f (get_or xs i d))) (at + length (f (get_or xs i d))) (i + 1)
      put_next = rw (add-one i) (record {
        same = length-sets out at (f (get_or xs i d)) ∙ g.same;
        end = omega (arith, long, g.end);
        rest = sym (sets_append out at (f (get_or xs i d)) (each f (drop (suc i) xs))) ∙ ap (sets out at) (sym first) ∙ g.rest;
      })

    pub put_all : length xs ≤ i → Put out₀ place (each f xs) at out
    unfolding each
    put_all done =
        let none : each f (drop i xs) ≡ [] = ap (each f) (drop_of_length-le xs done) in
        record { ends = sym (add-zero at) ∙ ap (λ l. at + length l) (sym none) ∙ g.end; leaves = ap (sets out at) (sym none) ∙ g.rest }
