-- Bytes put into a buffer, one part after the other. Assumes nothing.
use mathlib.Core.Path.{◌≡◌, sym, ap, ◌∙◌}
use mathlib.Core.List.{List, [], ◌∷◌, ◌++◌, append_assoc}
use Prim.Native.Nat.{ℕ, suc, ◌+◌, ◌≤◌}
use native.Mathlib.Omega.{arith}
use native.Mathlib.Nat.{add-zero}
use borrow.Rule.Slice.PartMut.{put_mid}
use lib.ListN.{length, set, take, drop}
use lib.Seq.{sets, sets-eq, drop-drop}

pub sets_append : (l : List ℕ) (i : ℕ) (xs ys : List ℕ) → sets l i (xs ++ ys) ≡ sets (sets l i xs) (i + length xs) ys
sets_append l i [] ys = ap (λ j. sets l j ys) (sym (add-zero i))
sets_append l i (x ∷ xs) ys =
    let e : suc i + length xs ≡ i + suc (length xs) = omega arith in
    sets_append (set l i x) (suc i) xs ys ∙ ap (λ j. sets (sets (set l i x) (suc i) xs) j ys) e

-- a part exchanged for as many bytes
pub sets_mid : (l ys : List ℕ) (i k : ℕ) → i + length ys ≤ length l → k ≡ length ys → put_mid i k l ys ≡ sets l i ys
sets_mid l ys i k room same =
    let e : i + k ≡ i + length ys = omega arith in
    ap (λ r. take i l ++ (ys ++ r)) (drop-drop k i l ∙ ap (λ n. drop n l) e) ∙ sym (append_assoc (take i l) ys (drop (i + length ys) l))
    ∙ sym (sets-eq ys l i room)
