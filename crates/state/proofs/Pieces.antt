-- A list of pieces, one after the other: what stands at a place of a piece, and what a change there leaves. Assumes nothing.
use mathlib.Core.Path.{◌≡◌, refl, ap, ◌∙◌}
use mathlib.Core.List.{List, [], ◌∷◌, ◌++◌, map, flatten}
use Prim.Native.Nat.{ℕ, zero, suc, ◌+◌, ◌<◌}
use native.Mathlib.Omega.{arith}
use lib.ListN.{length, get_or, drop, set, get_or-append}
use lib.Seq.{drop-append-add, get_or-append-add, set-append_left}

-- where piece k begins
abbrev pub begins : List (List ℕ) → ℕ → ℕ
begins ps zero = 0
begins [] (suc k) = 0
begins (p ∷ ps) (suc k) = length p + begins ps k

set_append_add : (xs ys : List ℕ) (n v : ℕ) → set (xs ++ ys) (length xs + n) v ≡ xs ++ set ys n v
set_append_add [] ys n v = let e : 0 + n ≡ n = omega arith in rw e refl
set_append_add (x ∷ xs) ys n v = let e : length (x ∷ xs) + n ≡ suc (length xs + n) = omega arith in rw e (ap (λ l. x ∷ l) (set_append_add xs ys n v))

pub read_piece : (ps : List (List ℕ)) (k i : ℕ) → i < length (get_or ps k []) → get_or (flatten ps) (begins ps k + i) 0 ≡ get_or (get_or ps k []) i 0
unfolding flatten
read_piece [] zero i h = absurd (omega arith)
read_piece [] (suc k) i h = absurd (omega arith)
read_piece (p ∷ ps) zero i h = let e : 0 + i ≡ i = omega arith in rw e (get_or-append p (flatten ps) 0 i h)
read_piece (p ∷ ps) (suc k) i h =
    let e : length p + begins ps k + i ≡ length p + (begins ps k + i) = omega arith in
    rw e (get_or-append-add p (flatten ps) (begins ps k + i) 0 ∙ read_piece ps k i h)

-- the list from a piece on
pub drop_piece : (ps : List (List ℕ)) (k : ℕ) → drop (begins ps k) (flatten ps) ≡ flatten (drop k ps)
unfolding flatten
drop_piece ps zero = refl
drop_piece [] (suc k) = refl
drop_piece (p ∷ ps) (suc k) = drop-append-add p (flatten ps) (begins ps k) ∙ drop_piece ps k

pub put_piece : (ps : List (List ℕ)) (k i v : ℕ) → i < length (get_or ps k [])
    → set (flatten ps) (begins ps k + i) v ≡ flatten (set ps k (set (get_or ps k []) i v))
unfolding flatten
put_piece [] zero i v h = absurd (omega arith)
put_piece [] (suc k) i v h = absurd (omega arith)
put_piece (p ∷ ps) zero i v h = let e : 0 + i ≡ i = omega arith in rw e (set-append_left p (flatten ps) i v h)
put_piece (p ∷ ps) (suc k) i v h =
    let e : length p + begins ps k + i ≡ length p + (begins ps k + i) = omega arith in
    rw e (set_append_add p (flatten ps) (begins ps k + i) v ∙ ap (λ l. p ++ l) (put_piece ps k i v h))

-- a piece of the same length leaves the others where they are
pub begins_set : (ps : List (List ℕ)) (k j : ℕ) (p : List ℕ) → length p ≡ length (get_or ps k []) → begins (set ps k p) j ≡ begins ps j
begins_set ps k zero p q = refl
begins_set [] k (suc j) p q = refl
begins_set (x ∷ ps) zero (suc j) p q = ap (λ n. n + begins ps j) q
begins_set (x ∷ ps) (suc k) (suc j) p q = ap (λ n. length x + n) (begins_set ps k j p q)

-- a change of an element, in the list of what each has
pub set_map : {A : Type 0} (f : A → ℕ) (l : List A) (i : ℕ) (x : A) → set (map f l) i (f x) ≡ map f (set l i x)
set_map f [] i x = refl
set_map f (y ∷ l) zero x = refl
set_map f (y ∷ l) (suc i) x = ap (λ r. f y ∷ r) (set_map f l i x)
