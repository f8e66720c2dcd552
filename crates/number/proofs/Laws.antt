-- What makes a way back from numbers right, and what a conjunction of tests tells. Assumes nothing.
use mathlib.Core.Path.{◌≡◌, refl}
use mathlib.Core.Bool.{Bool, true, false, ◌&&◌}
use Prim.Native.Nat.{ℕ}
use lib.Dec.{eqb}
use borrow.Author.Tests.{eqb-true, eq-eqb}
use Rattle.number.specs.Numbering.{is_number, Inverse, are_numbers, Inverse2, are_numbers3, Inverse3}

pub and_left : (a b : Bool) → a && b ≡ true → a ≡ true
and_left true b q = refl
and_left false b q = q

pub and_right : (a b : Bool) → a && b ≡ true → b ≡ true
and_right true b q = q
and_right false b q = cc

pub and_true : (a b : Bool) → a ≡ true → b ≡ true → a && b ≡ true
and_true a b p q = rw p q

pub and_false : (a b : Bool) → b ≡ false → a && b ≡ false
and_false true b q = q
and_false false b q = refl

pub false_and : (a b : Bool) → a ≡ false → a && b ≡ false
false_and a b q = rw q refl

pub inverse : {A : Type 0} (number : A → ℕ) (of : ℕ → A) → ((x : A) → of (number x) ≡ x) → Inverse number of
inverse number of back = record { decoded = back; encoded = λ k q. eqb-true (number (of k)) k q }

pub inverse2 : {A : Type 0} (first second : A → ℕ) (of : ℕ → ℕ → A) → ((x : A) → of (first x) (second x) ≡ x) → Inverse2 first second of
inverse2 first second of back =
    record { decoded = back; encoded = λ a b q. (eqb-true (first (of a b)) a (and_left _ _ q), eqb-true (second (of a b)) b (and_right (eqb (first (of a b)) a) _ q)) }

pub inverse3 : {A : Type 0} (first second third : A → ℕ) (of : ℕ → ℕ → ℕ → A) → ((x : A) → of (first x) (second x) (third x) ≡ x)
    → Inverse3 first second third of
inverse3 first second third of back =
    record {
      decoded = back;
      encoded = λ a b c q.
          let r : eqb (second (of a b c)) b && eqb (third (of a b c)) c ≡ true = and_right (eqb (first (of a b c)) a) _ q in
          (eqb-true (first (of a b c)) a (and_left _ _ q), eqb-true (second (of a b c)) b (and_left _ _ r), eqb-true (third (of a b c)) c (and_right (eqb (second (of a b c)) b) _ r));
    }

-- the numbers of a value are numbers

pub is_number_lem : {A : Type 0} (number : A → ℕ) (of : ℕ → A) → Inverse number of → (x : A) → is_number number of (number x) ≡ true
is_number_lem number of v x = rw (v.decoded x) (eq-eqb (number x) (number x) refl)

pub are_numbers_lem : {A : Type 0} (first second : A → ℕ) (of : ℕ → ℕ → A) → Inverse2 first second of → (x : A) → are_numbers first second of (first x) (second x) ≡ true
are_numbers_lem first second of v x = rw (v.decoded x) (and_true _ _ (eq-eqb (first x) (first x) refl) (eq-eqb (second x) (second x) refl))

pub are_numbers3_lem : {A : Type 0} (first second third : A → ℕ) (of : ℕ → ℕ → ℕ → A) → Inverse3 first second third of → (x : A)
    → are_numbers3 first second third of (first x) (second x) (third x) ≡ true
are_numbers3_lem first second third of v x =
    rw (v.decoded x)
    (and_true _ _ (eq-eqb (first x) (first x) refl) (and_true _ _ (eq-eqb (second x) (second x) refl) (eq-eqb (third x) (third x) refl)))
