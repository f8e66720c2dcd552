-- From a number back to what has it. An enum's numbers stand in one definition, `number`; the way back searches its values, so that no number
-- is written twice. Assumes nothing.
use Rattle.std.specs.Prelude.{◌≡◌, Bool, true, cond, ◌&&◌, List, [], ◌∷◌, ℕ, eqb}

-- the first value with number k; where none has it, `other`
abbrev pub numbered : {A : Type 0} → (A → ℕ) → A → List A → ℕ → A
numbered number other [] k = other
numbered number other (x ∷ xs) k = cond (eqb k (number x)) x (numbered number other xs k)

-- k is a number of one of the values: the value found has it
abbrev pub is_number : {A : Type 0} → (A → ℕ) → (ℕ → A) → ℕ → Bool
is_number number of k = eqb (number (of k)) k

-- the way back and the numbers belong together
pub record Inverse {A : Type 0} (number : A → ℕ) (of : ℕ → A) : Type 0 where
  pub decoded : (x : A) → of (number x) ≡ x
  pub encoded : (k : ℕ) → is_number number of k ≡ true → number (of k) ≡ k

-- the same for a value that goes by two numbers, as a state with its heard mask

abbrev pub are_numbers : {A : Type 0} → (A → ℕ) → (A → ℕ) → (ℕ → ℕ → A) → ℕ → ℕ → Bool
are_numbers first second of a b = eqb (first (of a b)) a && eqb (second (of a b)) b

pub record Inverse2 {A : Type 0} (first second : A → ℕ) (of : ℕ → ℕ → A) : Type 0 where
  pub decoded : (x : A) → of (first x) (second x) ≡ x
  pub encoded : (a b : ℕ) → are_numbers first second of a b ≡ true → (first (of a b) ≡ a) × (second (of a b) ≡ b)

-- and by three, as a step with its kind and an event with its detail and record

abbrev pub are_numbers3 : {A : Type 0} → (A → ℕ) → (A → ℕ) → (A → ℕ) → (ℕ → ℕ → ℕ → A) → ℕ → ℕ → ℕ → Bool
are_numbers3 first second third of a b c = eqb (first (of a b c)) a && (eqb (second (of a b c)) b && eqb (third (of a b c)) c)

pub record Inverse3 {A : Type 0} (first second third : A → ℕ) (of : ℕ → ℕ → ℕ → A) : Type 0 where
  pub decoded : (x : A) → of (first x) (second x) (third x) ≡ x
  pub encoded : (a b c : ℕ) → are_numbers3 first second third of a b c ≡ true → (first (of a b c) ≡ a) × (second (of a b c) ≡ b) × (third (of a b c) ≡ c)
