-- Laws of masks, for any place and any width. Assumes nothing.
use mathlib.Core.Path.{◌≡◌, refl, sym, ap, ◌∙◌}
use mathlib.Core.Logic.{◌≢◌}
use mathlib.Core.Bool.{Bool, true, false, ◌||◌, true≢false}
use Prim.Native.Nat.{ℕ, zero, suc, ◌+◌, ◌*◌, ◌/◌, ◌%◌, ◌^◌, ◌≤◌, ◌<◌}
use native.Mathlib.Nat.{pow-suc, pow-zero, div-one, one-mul}
use native.Mathlib.Numerals.{one-add}
use native.Mathlib.Omega.{arith}
use native.Mathlib.Decide.{ℕ_discrete, dec_lt}
use lib.Dec.{eqb}
use lib.Pow.{pow_pos, shr-shr, shl_exact}
use lib.Bits.{bit_or, or_step, or_zero_r}
use borrow.Author.Tests.{leb-true, eqb-true, eqb-false, le-leb}
use Rattle.mask.specs.Mask.{bit, has, insert, remove, full, within}

-- x * 2 + a digit, taken apart
half : (x m : ℕ) → (x * 2 + m % 2) / 2 ≡ x
half x m = omega arith

low : (x m : ℕ) → (x * 2 + m % 2) % 2 ≡ m % 2
low x m = omega arith

pub bit_lt : (i m : ℕ) → bit i m < 2
bit_lt zero m = omega arith
bit_lt (suc i) m = bit_lt i (m / 2)

pub bit_zero : (i : ℕ) → bit i 0 ≡ 0
bit_zero zero = refl
bit_zero (suc i) = bit_zero i

pub bit_insert_same : (i m : ℕ) → bit i (insert i m) ≡ 1
bit_insert_same zero m = omega arith
bit_insert_same (suc i) m = rw (half (insert i (m / 2)) m) (bit_insert_same i (m / 2))

pub bit_insert_other : (i j m : ℕ) → j ≢ i → bit j (insert i m) ≡ bit j m
bit_insert_other zero zero m ne = absurd (ne refl)
bit_insert_other zero (suc j) m ne =
    let h : (m / 2 * 2 + 1) / 2 ≡ m / 2 = omega arith in
    rw h
bit_insert_other (suc i) zero m ne = low (insert i (m / 2)) m
bit_insert_other (suc i) (suc j) m ne = rw (half (insert i (m / 2)) m) (bit_insert_other i j (m / 2) (λ e. ne (ap suc e)))

pub bit_remove_same : (i m : ℕ) → bit i (remove i m) ≡ 0
bit_remove_same zero m = omega arith
bit_remove_same (suc i) m = rw (half (remove i (m / 2)) m) (bit_remove_same i (m / 2))

pub bit_remove_other : (i j m : ℕ) → j ≢ i → bit j (remove i m) ≡ bit j m
bit_remove_other zero zero m ne = absurd (ne refl)
bit_remove_other zero (suc j) m ne =
    let h : (m / 2 * 2) / 2 ≡ m / 2 = omega arith in
    rw h
bit_remove_other (suc i) zero m ne = low (remove i (m / 2)) m
bit_remove_other (suc i) (suc j) m ne = rw (half (remove i (m / 2)) m) (bit_remove_other i j (m / 2) (λ e. ne (ap suc e)))

full_half : (n : ℕ) → full (suc n) / 2 ≡ full n
full_half n = omega (arith, pow-suc 2 n, pow_pos n)

full_low : (n : ℕ) → full (suc n) % 2 ≡ 1
full_low n = omega (arith, pow-suc 2 n, pow_pos n)

pub bit_full : (i n : ℕ) → i < n → bit i (full n) ≡ 1
bit_full zero zero h = omega arith
bit_full (suc i) zero h = omega arith
bit_full zero (suc n) h = full_low n
bit_full (suc i) (suc n) h = rw (full_half n) (bit_full i n (omega arith))

-- how many of participants 1 to n are members

abbrev pub size : ℕ → ℕ → ℕ
size zero m = 0
size (suc n) m = m % 2 + size n (m / 2)

pub size_le : (n m : ℕ) → size n m ≤ n
size_le zero m = omega arith
size_le (suc n) m = omega (arith, size_le n (m / 2))

pub size_insert : (n i m : ℕ) → i < n → bit i m ≡ 0 → size n (insert i m) ≡ suc (size n m)
size_insert zero i m h e = omega arith
size_insert (suc n) zero m h e =
    let q : (m / 2 * 2 + 1) / 2 ≡ m / 2 = omega arith in
    rw q (omega arith)
size_insert (suc n) (suc i) m h e =
    rw (half (insert i (m / 2)) m, low (insert i (m / 2)) m) (omega (arith, size_insert n i (m / 2) (omega arith) e))

-- bounds, and what the program computes

pub insert_lt : (n i m : ℕ) → i < n → m < 2 ^ n → insert i m < 2 ^ n
insert_lt zero i m h l = omega arith
insert_lt (suc n) zero m h l = omega (arith, pow-suc 2 n)
insert_lt (suc n) (suc i) m h l = omega (arith, pow-suc 2 n, insert_lt n i (m / 2) (omega arith) (omega (arith, pow-suc 2 n)))

pub insert_add : (i m : ℕ) → bit i m ≡ 0 → insert i m ≡ m + 2 ^ i
insert_add zero m e = omega arith
insert_add (suc i) m e = omega (arith, pow-suc 2 i, insert_add i (m / 2) e)

pub remove_sub : (i m : ℕ) → bit i m ≡ 1 → remove i m + 2 ^ i ≡ m
remove_sub zero m e = omega arith
remove_sub (suc i) m e = omega (arith, pow-suc 2 i, remove_sub i (m / 2) e)

-- the same laws of the test

pub has_zero : (i : ℕ) → has i 0 ≡ false
has_zero i = rw (bit_zero i) refl

pub has_insert_same : (i m : ℕ) → has i (insert i m) ≡ true
has_insert_same i m = rw (bit_insert_same i m) refl

pub has_insert_other : (i j m : ℕ) → j ≢ i → has j (insert i m) ≡ has j m
has_insert_other i j m ne = rw (bit_insert_other i j m ne) refl

pub has_remove_same : (i m : ℕ) → has i (remove i m) ≡ false
has_remove_same i m = rw (bit_remove_same i m) refl

pub has_remove_other : (i j m : ℕ) → j ≢ i → has j (remove i m) ≡ has j m
has_remove_other i j m ne = rw (bit_remove_other i j m ne) refl

pub has_full : (i n : ℕ) → i < n → has i (full n) ≡ true
has_full i n h = rw (bit_full i n h) refl

pub bit_of_has : (i m : ℕ) → has i m ≡ false → bit i m ≡ 0
bit_of_has i m e =
    let lt = bit_lt i m in
    let ne : bit i m ≢ 1 = eqb-false (bit i m) 1 e in
    omega arith

-- a member of an inserted set is the one inserted or an old one
pub has_insert_cases : (P : ℕ → Type 0) (i j m : ℕ) → P i → (has j m ≡ true → P j) → has j (insert i m) ≡ true → P j
has_insert_cases P i j m new old h = go (ℕ_discrete j i)
  where
    go : Dec (j ≡ i) → P j
    go (yes e) = rw e new
    go (no ne) = old (rw (has_insert_other i j m ne) at h)

-- no member of an inserted set: neither the one inserted nor an old one
pub not_inserted : (i j m : ℕ) → has j (insert i m) ≡ false → j ≢ i
not_inserted i j m h e = true≢false (sym (has_insert_same i m) ∙ ap (λ (k : ℕ). has k (insert i m)) (sym e) ∙ h)

pub not_member : (i j m : ℕ) → has j (insert i m) ≡ false → has j m ≡ false
not_member i j m h = sym (has_insert_other i j m (not_inserted i j m h)) ∙ h

-- another place, not a member: neither the one inserted nor an old one
pub has_insert_neither : (i j m : ℕ) → (eqb j i || has j m) ≡ false → has j (insert i m) ≡ false
has_insert_neither i j m = go (eqb j i) refl
  where
    go : (b : Bool) → eqb j i ≡ b → (b || has j m) ≡ false → has j (insert i m) ≡ false
    go true q h = absurd (true≢false h)
    go false q h = has_insert_other i j m (eqb-false j i q) ∙ h

-- a member after a removal was one before
pub has_remove : (i j m : ℕ) → has j (remove i m) ≡ true → has j m ≡ true
has_remove i j m h = go (ℕ_discrete j i)
  where
    go : Dec (j ≡ i) → has j m ≡ true
    go (yes e) = absurd (true≢false (sym h ∙ ap (λ (k : ℕ). has k (remove i m)) e ∙ has_remove_same i m))
    go (no ne) = rw (has_remove_other i j m ne) at h

-- as the program computes them

pub bit_shift : (i m : ℕ) → bit i m ≡ m / 2 ^ i % 2
bit_shift zero m = rw (div-one m) refl
bit_shift (suc i) m = bit_shift i (m / 2) ∙ ap (λ (x : ℕ). x % 2) (shr-shr m 1 i ∙ ap (λ (k : ℕ). m / 2 ^ k) (one-add i))

pub insert_has : (i m : ℕ) → bit i m ≡ 1 → insert i m ≡ m
insert_has zero m e = omega arith
insert_has (suc i) m e = rw (insert_has i (m / 2) e) (omega arith)

pub insert_or : (i m : ℕ) → bit_or m (2 ^ i) ≡ insert i m
insert_or zero m = or_step m 1 ∙ rw (or_zero_r (m / 2)) (omega arith)
insert_or (suc i) m =
    let h : 2 ^ suc i / 2 ≡ 2 ^ i = omega (arith, pow-suc 2 i) in
    let l : 2 ^ suc i % 2 ≡ 0 = omega (arith, pow-suc 2 i) in
    or_step m (2 ^ suc i) ∙ rw (h, l, insert_or i (m / 2)) (omega arith)

pub shift_one : (w i : ℕ) → i < w → (1 * 2 ^ i) % 2 ^ w ≡ 2 ^ i
shift_one w i h = shl_exact 1 i w (omega arith) (omega arith) ∙ one-mul (2 ^ i)

-- sets of n members at most: below 2 ^ n

pub bit_beyond : (n i m : ℕ) → n ≤ i → m < 2 ^ n → bit i m ≡ 0
bit_beyond zero zero m h l = omega (arith, pow-zero 2)
bit_beyond zero (suc i) m h l = bit_beyond zero i (m / 2) (omega arith) (omega (arith, pow-zero 2))
bit_beyond (suc n) zero m h l = absurd (omega arith)
bit_beyond (suc n) (suc i) m h l = bit_beyond n i (m / 2) (omega arith) (omega (arith, pow-suc 2 n))

pub remove_none : (i m : ℕ) → bit i m ≡ 0 → remove i m ≡ m
remove_none zero m e = omega arith
remove_none (suc i) m e = rw (remove_none i (m / 2) e) (omega arith)

pub remove_le : (i m : ℕ) → remove i m ≤ m
remove_le zero m = omega arith
remove_le (suc i) m = omega (arith, remove_le i (m / 2))

pub full_lt : (n : ℕ) → full n < 2 ^ n
full_lt n = omega (arith, pow_pos n)

-- a mask within n is below 2 to the power n
pub lt_within : (n m : ℕ) → m < 2 ^ n → within n m ≡ true
lt_within n m h = le-leb m (full n) (omega arith)

pub none_within : (n : ℕ) → within n 0 ≡ true
none_within n = le-leb 0 (full n) (omega arith)

pub within_lt : (n m : ℕ) → within n m ≡ true → m < 2 ^ n
within_lt n m q = omega (arith, leb-true m (full n) q, full_lt n)

-- a set of at most n members that has them all is the full set
pub full_ext : (n m : ℕ) → m < 2 ^ n → ((j : ℕ) → j < n → bit j m ≡ 1) → m ≡ full n
full_ext zero m h all = omega (arith, pow-zero 2)
full_ext (suc n) m h all =
    omega (arith, pow-suc 2 n, pow_pos n, all zero (omega arith), full_ext n (m / 2) (omega (arith, pow-suc 2 n)) (λ j l. all (suc j) (omega arith)))

-- a set that is full with i alone is full with i and more
pub full_more : (n i h : ℕ) → i < n → h < 2 ^ n → insert i 0 ≡ full n → insert i h ≡ full n
full_more n i h l b q =
    full_ext n (insert i h) (insert_lt n i h l b)
    (λ j k. eqb-true (bit j (insert i h)) 1
    (has_insert_cases (λ x. has x (insert i h) ≡ true) i j 0 (has_insert_same i h) (λ z. absurd (true≢false (sym z ∙ has_zero j))) (rw q (has_full j n k))))

pub has_beyond : (n i m : ℕ) → n ≤ i → m < 2 ^ n → has i m ≡ false
has_beyond n i m h l = rw (bit_beyond n i m h l) refl

pub member_below : (n i m : ℕ) → m < 2 ^ n → has i m ≡ true → i < n
member_below n i m l h = go (dec_lt i n)
  where
    go : Dec (i < n) → i < n
    go (yes q) = q
    go (no q) = absurd (true≢false (sym h ∙ has_beyond n i m (omega (arith, q)) l))

-- a member of a mask of w bits: its place, its bit as the program shifts it, and the mask without it
pub record Member (w m i : ℕ) : Type 0 where
  pub below : i < w
  pub shifted : (1 * 2 ^ i) % 2 ^ w ≡ 2 ^ i
  pub taken : remove i m + 2 ^ i ≡ m

pub member : (w m i : ℕ) → m < 2 ^ w → has i m ≡ true → Member w m i
member w m i l h =
    let b : i < w = member_below w i m l h in
    record { below = b; shifted = shift_one w i b; taken = remove_sub i m (eqb-true (bit i m) 1 h) }
