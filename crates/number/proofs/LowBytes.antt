-- Numbers as bytes and back, for any number of bytes. Assumes nothing.
use mathlib.Core.Path.{◌≡◌, refl, sym, ap, ap₂, ◌∙◌}
use mathlib.Core.List.{List, [], ◌∷◌, ◌++◌, append-nil, append_assoc}
use Prim.Native.Nat.{ℕ, zero, suc, ◌+◌, ◌-◌, ◌*◌, ◌/◌, ◌%◌, ◌^◌, ◌≤◌, ◌<◌}
use native.Mathlib.Omega.{arith}
use native.Mathlib.Nat.{pow-suc, pow-zero}
use lib.Pow.{pow-add}
use lib.ListN.{length, get_or, set, take, drop, length-append}
use lib.Seq.{drop_at}
use Rattle.std.specs.Int.{to_le_bytes}
use Rattle.std.proofs.Common.{w32}
use Rattle.std.proofs.lemmas.Grind.{take-set_at}
use Rattle.std.proofs.lemmas.List.{take_all}
use Rattle.number.specs.Low.{low_bytes, low_number}

pub low_length : (w x : ℕ) → length (low_bytes w x) ≡ w
low_length zero x = refl
low_length (suc w) x = ap suc (low_length w (x / 256))

-- a number that fits is read back from its bytes, whatever follows them
pub low_back : (w x : ℕ) (rest : List ℕ) → x < 256 ^ w → low_number w (low_bytes w x ++ rest) ≡ x
low_back zero x rest h = omega (arith, pow-zero 256)
low_back (suc w) x rest h =
    let e = low_back w (x / 256) rest (omega (arith, pow-suc 256 w)) in
    omega (arith, e)

-- and the bytes from their number
pub low_forth : (w : ℕ) (l : List ℕ) → w ≤ length l → ((i : ℕ) → i < w → get_or l i 0 < 256) → low_bytes w (low_number w l) ≡ take w l
low_forth zero l h b = refl
low_forth (suc w) [] h b = absurd (omega arith)
low_forth (suc w) (x ∷ l) h b =
    let s : x < 256 = b 0 (omega arith) in
    let m : (x + 256 * low_number w l) % 256 ≡ x = omega arith in
    let d : (x + 256 * low_number w l) / 256 ≡ low_number w l = omega arith in
    ap₂ (λ (a : ℕ) (r : List ℕ). a ∷ r) m (ap (low_bytes w) d ∙ low_forth w l (omega arith) (λ i g. b (suc i) (omega arith)))

-- bytes have eight bits each
pub low_bits : (w : ℕ) → 256 ^ w ≡ 2 ^ (8 * w)
low_bits zero = refl
low_bits (suc w) =
    let e : 8 * suc w ≡ 8 + 8 * w = omega arith in
    omega (arith, pow-suc 256 w, low_bits w, ap (λ k. 2 ^ k) e, pow-add 2 8 (8 * w))

-- A loop that puts the bytes into a part of that length, and one that reads them

pub low_next : (part : List ℕ) (width i rest : ℕ) → i < width → width ≡ length part
    → take (i + 1) (set part i (rest % 256)) ++ low_bytes (width - (i + 1)) (rest / 256) ≡ take i part ++ low_bytes (width - i) rest
low_next part width i rest h same =
    let a : width - i ≡ suc (width - (i + 1)) = omega arith in
    let within : i < length part = omega arith in
    ap (λ l. l ++ low_bytes (width - (i + 1)) (rest / 256)) (take-set_at part i (i + 1) (rest % 256) refl within)
    ∙ append_assoc (take i part) (rest % 256 ∷ []) (low_bytes (width - (i + 1)) (rest / 256))
    ∙ sym (ap (λ w. take i part ++ low_bytes w rest) a)

pub low_done : (part all : List ℕ) (width i rest : ℕ) → width ≤ i → width ≡ length part → take i part ++ low_bytes (width - i) rest ≡ all → part ≡ all
low_done part all width i rest h same e =
    let a : width - i ≡ 0 = omega arith in
    let b : take i part ++ [] ≡ all = sym (ap (λ w. take i part ++ low_bytes w rest) a) ∙ e in
    sym (take_all i part (omega arith)) ∙ sym (append-nil (take i part)) ∙ b

-- the library's four bytes
pub low_four : (x : ℕ) → to_le_bytes w32 x ≡ low_bytes 4 x
low_four x =
    let one : x / 256 ^ 1 % 256 ≡ x / 256 % 256 = omega arith in
    let two : x / 256 ^ 2 % 256 ≡ x / 256 / 256 % 256 = omega arith in
    let three : x / 256 ^ 3 % 256 ≡ x / 256 / 256 / 256 % 256 = omega arith in
    rw (one, two, three) refl

three_bytes : (w x : ℕ) → w ≤ 3 → x < 256 ^ w → x < 16777216
three_bytes zero x h g = omega arith
three_bytes (suc zero) x h g = omega arith
three_bytes (suc (suc zero)) x h g = omega arith
three_bytes (suc (suc (suc zero))) x h g = omega arith
three_bytes (suc (suc (suc (suc w)))) x h g = absurd (omega arith)

-- what is left to read is the front of the part, and x is the number that the rest of it holds
pub record Reads (part : List ℕ) (width : ℕ) (left : List ℕ) (x : ℕ) : Type 0 where
  pub within : length left ≤ width
  pub front : left ++ drop (length left) part ≡ part
  pub number : x ≡ low_number (width - length left) (drop (length left) part)
  pub below : x < 256 ^ (width - length left)

module _ (part : List ℕ) (width : ℕ) (left next : List ℕ) (x b : ℕ) (e : left ≡ next ++ (b ∷ [])) (g : Reads part width left x) where
  left_length : length left ≡ length next + 1
  left_length = ap length e ∙ length-append next (b ∷ [])

  -- the byte read stands before those read
  read : drop (length next) part ≡ b ∷ drop (length left) part
  read =
      let r : List ℕ = drop (length left) part in
      ap (drop (length next)) (sym g.front ∙ ap (λ l. l ++ r) e ∙ append_assoc next (b ∷ []) r) ∙ drop_at next (b ∷ r) (length next) refl

  pub reads_next : b < 256 → Reads part width next (b + 256 * x)
  reads_next small =
      let r : List ℕ = drop (length left) part in
      let a : width - length next ≡ suc (width - length left) = omega (arith, left_length, g.within) in
      record {
        within = omega (arith, left_length, g.within);
        front = ap (λ l. next ++ l) read ∙ sym (append_assoc next (b ∷ []) r) ∙ sym (ap (λ l. l ++ r) e) ∙ g.front;
        number = ap (λ n. b + 256 * n) g.number ∙ sym (ap₂ low_number a read);
        below = rw a (omega (arith, pow-suc 256 (width - length left), g.below));
      }

  -- up to four bytes there is room for one more
  pub reads_room : width ≤ 4 → x < 16777216
  reads_room four = three_bytes (width - length left) x (omega (arith, left_length)) g.below

pub reads_done : (part : List ℕ) (width : ℕ) (left : List ℕ) (x : ℕ) → length left ≡ 0 → Reads part width left x
    → (x ≡ low_number width part) × (x < 256 ^ width)
reads_done part width left x done g =
    let a : width - length left ≡ width = omega arith in
    (g.number ∙ ap₂ (λ w k. low_number w (drop k part)) a done, rw a at g.below)

-- the first bytes are enough
pub low_number_front : (width k : ℕ) (l : List ℕ) → width ≤ k → low_number width (take k l) ≡ low_number width l
low_number_front zero k l h = refl
low_number_front (suc width) zero l h = absurd (omega arith)
low_number_front (suc width) (suc k) [] h = refl
low_number_front (suc width) (suc k) (x ∷ l) h = ap (λ n. x + 256 * n) (low_number_front width k l (omega arith))
