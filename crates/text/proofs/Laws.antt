-- What the proofs of this crate, and of crates that lay texts out, use of the definitions: decimals digit by digit, lengths, and stores one after
-- another.
-- Assumes nothing.
use mathlib.Core.Path.{◌≡◌, refl, sym, ap, ◌∙◌}
use mathlib.Core.Bool.{Bool, true, false}
use mathlib.Core.List.{List, [], ◌∷◌, ◌++◌}
use Prim.Native.Nat.{ℕ, zero, suc, ◌+◌, ◌-◌, ◌*◌, ◌/◌, ◌%◌, ◌^◌, ◌≤◌, ◌<◌}
use native.Mathlib.Nat.{pow-suc, pow-zero}
use native.Mathlib.Numerals.{add-one}
use native.Mathlib.Omega.{arith}
use lib.Dec.{ltb}
use lib.ListN.{length, set, get_or, drop, length-append, drop_of_length-le}
use lib.Seq.{sets, set_comm, drop-cons}
use borrow.Author.Tests.{ltb-true, ltb-false, lt-ltb, le-ltb}
use Rattle.number.proofs.Lists.{sets_append}
use Rattle.text.specs.Text.{ascii, digit, digits_up_to, decimal, hexadecimal, refusal_line}

-- Decimals

few_or_more : {P : Type 0} (n : ℕ) → (n < 10 → P) → (10 ≤ n → P) → P
few_or_more {P} n few more = go (ltb n 10) refl
  where
    go : (b : Bool) → ltb n 10 ≡ b → P
    go true q = few (ltb-true n 10 q)
    go false q = more (ltb-false n 10 q)

-- where there may be more digits than the number has, how many there may be does not matter
enough : (a b n : ℕ) → n < a → n < b → digits_up_to a n ≡ digits_up_to b n
enough zero b n h g = absurd (omega arith)
enough (suc a) zero n h g = absurd (omega arith)
enough (suc a) (suc b) n h g =
    few_or_more n
    (λ few. simp (lt-ltb n 10 few))
    (λ more. simp (le-ltb n 10 more) (ap (λ l. l ++ (digit (n % 10) ∷ [])) (enough a b (n / 10) (omega arith) (omega arith))))

pub decimal_few : (n : ℕ) → n < 10 → decimal n ≡ digit n ∷ []
unfolding decimal
decimal_few n h = rw (lt-ltb n 10 h)

pub decimal_more : (n : ℕ) → 10 ≤ n → decimal n ≡ decimal (n / 10) ++ (digit (n % 10) ∷ [])
unfolding decimal
decimal_more n h =
    rw (le-ltb n 10 h) (ap (λ l. l ++ (digit (n % 10) ∷ [])) (enough n (suc (n / 10)) (n / 10) (omega arith) (omega arith)))

-- Lengths

pub length_few : (n : ℕ) → n < 10 → length (decimal n) ≡ 1
length_few n h = ap length (decimal_few n h)

pub length_more : (n : ℕ) → 10 ≤ n → length (decimal n) ≡ length (decimal (n / 10)) + 1
length_more n h = ap length (decimal_more n h) ∙ length-append (decimal (n / 10)) (digit (n % 10) ∷ [])

pub decimal_length : (k n : ℕ) → 1 ≤ k → n < 10 ^ k → length (decimal n) ≤ k
decimal_length zero n h g = absurd (omega arith)
decimal_length (suc zero) n h g = omega (arith, length_few n g)
decimal_length (suc (suc k)) n h g =
    few_or_more n
    (λ few. omega (arith, length_few n few))
    (λ more. omega (arith, length_more n more, decimal_length (suc k) (n / 10) (omega arith) (omega (arith, pow-suc 10 (suc k)))))

power_some : (k : ℕ) → 1 ≤ 10 ^ k
power_some zero = omega (arith, pow-zero 10)
power_some (suc k) = omega (arith, pow-suc 10 k, power_some k)

-- one more than the greatest power of ten that is not above the number
pub power_length : (k n : ℕ) → 10 ^ k ≤ n → n < 10 * 10 ^ k → length (decimal n) ≡ k + 1
power_length zero n h g = omega (arith, pow-zero 10, length_few n)
power_length (suc k) n h g =
    let s : 10 ^ suc k ≡ 10 * 10 ^ k = omega (arith, pow-suc 10 k) in
    let more : 10 ≤ n = omega (arith, power_some k) in
    omega (arith, length_more n more, power_length k (n / 10) (omega arith) (omega arith))

pub hexadecimal_length : (bytes : List ℕ) → length (hexadecimal bytes) ≡ 2 * length bytes
unfolding hexadecimal
hexadecimal_length [] = refl
hexadecimal_length (b ∷ bytes) = let l = hexadecimal_length bytes in omega arith

pub hexadecimal_end : (bytes : List ℕ) (i : ℕ) → length bytes ≤ i → hexadecimal (drop i bytes) ≡ []
unfolding hexadecimal
hexadecimal_end bytes i h = ap hexadecimal (drop_of_length-le bytes h)

pub refusal_length : (k place : ℕ) → length (refusal_line k place) ≡ 13 + (length (decimal k) + length (decimal place))
refusal_length k place =
    omega (
      arith,
      length-append (decimal k) (ascii " at " ++ (decimal place ++ ascii "\n")),
      length-append (decimal place) (ascii "\n"),
    )

-- As many digits as are asked for, the last one last

abbrev pub last_digits : ℕ → ℕ → List ℕ
last_digits zero n = []
last_digits (suc k) n = last_digits k (n / 10) ++ (digit (n % 10) ∷ [])

last_digits_length : (k n : ℕ) → length (last_digits k n) ≡ k
last_digits_length zero n = refl
last_digits_length (suc k) n = length-append (last_digits k (n / 10)) (digit (n % 10) ∷ []) ∙ omega (arith, last_digits_length k (n / 10))

digits_below : (most n : ℕ) → n < most → last_digits (length (decimal n)) n ≡ decimal n
digits_below zero n h = absurd (omega arith)
digits_below (suc most) n h =
    few_or_more n
    (λ few.
    let same : n % 10 ≡ n = omega arith in
    ap (λ k. last_digits k n) (length_few n few) ∙ ap (λ d. digit d ∷ []) same ∙ sym (decimal_few n few))
    (λ more.
    let long : length (decimal n) ≡ suc (length (decimal (n / 10))) = omega (arith, length_more n more) in
    ap (λ k. last_digits k n) long ∙ ap (λ l. l ++ (digit (n % 10) ∷ [])) (digits_below most (n / 10) (omega arith)) ∙ sym (decimal_more n more))

pub all_digits : (n : ℕ) → last_digits (length (decimal n)) n ≡ decimal n
all_digits n = digits_below (suc n) n (omega arith)

-- Stores

-- a store behind a text may come before it
pub sets_behind : (l : List ℕ) (i : ℕ) (xs : List ℕ) (j x : ℕ) → i + length xs ≤ j → sets (set l j x) i xs ≡ set (sets l i xs) j x
sets_behind l i [] j x h = refl
sets_behind l i (y ∷ xs) j x h =
    ap (λ t. sets t (suc i) xs) (set_comm l j i x y (λ e. omega arith)) ∙ sets_behind (set l i y) (suc i) xs j x (omega arith)

-- One turn of each loop: what is put, and then what is left, is what was left

pub next_pair : (text bytes : List ℕ) (place i : ℕ) → i < length bytes
    → sets (set (set text place (digit (get_or bytes i 0 / 16))) (place + 1) (digit (get_or bytes i 0 % 16))) (place + 2) (hexadecimal (drop (i + 1) bytes))
    ≡ sets text place (hexadecimal (drop i bytes))
unfolding hexadecimal
next_pair text bytes place i h =
    let e : place + 2 ≡ suc (suc place) = omega arith in
    rw (e, add-one place, add-one i, drop-cons bytes i 0)

pub last_digit : (text : List ℕ) (place at end n : ℕ) → place ≤ at → at + 1 ≡ end
    → sets (set text at (digit (n % 10))) place (last_digits (at - place) (n / 10)) ≡ sets text place (last_digits (end - place) n)
last_digit text place at end n h e =
    let front : List ℕ = last_digits (at - place) (n / 10) in
    let here : at ≡ place + length front = omega (arith, last_digits_length (at - place) (n / 10)) in
    let more : end - place ≡ suc (at - place) = omega arith in
    sets_behind text place front at (digit (n % 10)) (omega arith)
    ∙ ap (λ i. set (sets text place front) i (digit (n % 10))) here
    ∙ sym (sets_append text place front (digit (n % 10) ∷ []))
    ∙ sym (ap (λ k. sets text place (last_digits k n)) more)
