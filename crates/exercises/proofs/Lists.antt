-- Lists that are made part by part: what all elements have, which they are, and their order. Assumes nothing.
use mathlib.Core.Path.{◌≡◌, refl, sym, ap, ap₂, ◌∙◌}
use mathlib.Core.Logic.{◌⊎◌, inl, inr, ⊎_elim}
use mathlib.Core.List.{List, [], ◌∷◌, ◌++◌, map, flatten, append_assoc, map-append}
use Prim.Native.Nat.{ℕ, zero, suc, ◌<◌}
use native.Mathlib.Omega.{arith}
use lib.ListN.{length, get_or}
use Rattle.number.specs.Table.{tabulate}

-- every element has P
abbrev pub All : {A : Type 0} → (A → Type 0) → List A → Type 0
All P [] = Unit {0}
All P (x ∷ xs) = P x × All P xs

-- one of the elements
abbrev pub Among : {A : Type 0} → A → List A → Type 0
Among x [] = ⊥
Among x (y ∷ ys) = (x ≡ y) ⊎ Among x ys

-- each element stands before every later one
abbrev pub Ordered : {A : Type 0} → (A → A → Type 0) → List A → Type 0
Ordered B [] = Unit {0}
Ordered B (x ∷ xs) = All (B x) xs × Ordered B xs

module _ {A : Type 0} where
  pub all_map : (P Q : A → Type 0) → ((x : A) → P x → Q x) → (l : List A) → All P l → All Q l
  all_map P Q f [] h = tt
  all_map P Q f (x ∷ l) h = (f x h.0, all_map P Q f l h.1)

  pub all_of : (P : A → Type 0) → ((x : A) → P x) → (l : List A) → All P l
  all_of P f [] = tt
  all_of P f (x ∷ l) = (f x, all_of P f l)

  pub all_append : (P : A → Type 0) (l m : List A) → All P l → All P m → All P (l ++ m)
  all_append P [] m h k = k
  all_append P (x ∷ l) m h k = (h.0, all_append P l m h.1 k)

  pub all_among : (P : A → Type 0) (l : List A) → All P l → (x : A) → Among x l → P x
  all_among P [] h x m = absurd m
  all_among P (y ∷ l) h x m = ⊎_elim (λ e. rw e h.0) (λ k. all_among P l h.1 x k) m

  -- every element of a list is among it
  pub all_own : (l : List A) → All (λ x. Among x l) l
  all_own [] = tt
  all_own (x ∷ l) = (inl refl, all_map (λ y. Among y l) (λ y. Among y (x ∷ l)) (λ y m. inr m) l (all_own l))

  pub among_left : (x : A) (l m : List A) → Among x l → Among x (l ++ m)
  among_left x [] m h = absurd h
  among_left x (y ∷ l) m h = ⊎_elim {C = Among x (y ∷ (l ++ m))} (λ e. inl e) (λ k. inr (among_left x l m k)) h

  pub among_right : (x : A) (l m : List A) → Among x m → Among x (l ++ m)
  among_right x [] m h = h
  among_right x (y ∷ l) m h = inr (among_right x l m h)

  ordered_append : (B : A → A → Type 0) (l m : List A) → Ordered B l → Ordered B m → All (λ x. All (B x) m) l → Ordered B (l ++ m)
  ordered_append B [] m h k c = k
  ordered_append B (x ∷ l) m h k c = (all_append (B x) l m h.0 c.0, ordered_append B l m h.1 k c.1)

  -- The same by places

  pub all_at : (P : A → Type 0) (l : List A) (d : A) → All P l → (i : ℕ) → i < length l → P (get_or l i d)
  all_at P [] d h i k = absurd (omega arith)
  all_at P (x ∷ l) d h zero k = h.0
  all_at P (x ∷ l) d h (suc i) k = all_at P l d h.1 i (omega arith)

  pub place_of : (x : A) (l : List A) (d : A) → Among x l → (i : ℕ) × (i < length l) × (get_or l i d ≡ x)
  place_of x [] d h = absurd h
  place_of x (y ∷ l) d h =
      ⊎_elim {C = (i : ℕ) × (i < length (y ∷ l)) × (get_or (y ∷ l) i d ≡ x)} (λ e. (0, omega arith, sym e)) (λ k. let p = place_of x l d k in (suc p.0, omega (arith, p.1), p.2)) h

  pub ordered_at : (B : A → A → Type 0) (l : List A) (d : A) → Ordered B l → (i j : ℕ) → i < j → j < length l → B (get_or l i d) (get_or l j d)
  ordered_at B [] d o i j h k = absurd (omega arith)
  ordered_at B (x ∷ l) d o i zero h k = absurd (omega arith)
  ordered_at B (x ∷ l) d o zero (suc j) h k = all_at (B x) l d o.0 j (omega arith)
  ordered_at B (x ∷ l) d o (suc i) (suc j) h k = ordered_at B l d o.1 i j (omega arith) (omega arith)

-- Parts made for each element, one after another

module _ {A B : Type 0} (f : A → List B) where
  pub all_gather : (P : B → Type 0) (l : List A) → All (λ x. All P (f x)) l → All P (flatten (map f l))
  unfolding flatten
  all_gather P [] h = tt
  all_gather P (x ∷ l) h = all_append P (f x) (flatten (map f l)) h.0 (all_gather P l h.1)

  pub among_gather : (y : B) (x : A) (l : List A) → Among x l → Among y (f x) → Among y (flatten (map f l))
  unfolding flatten
  among_gather y x [] h k = absurd h
  among_gather y x (z ∷ l) h k =
      ⊎_elim {C = Among y (f z ++ flatten (map f l))} (λ e. among_left y (f z) (flatten (map f l)) (rw e at k)) (λ m. among_right y (f z) (flatten (map f l)) (among_gather y x l m k)) h

  -- where each part is in order, and parts of ordered elements stand one before the other
  pub ordered_gather : (O : A → A → Type 0) (Q : B → B → Type 0) → ((x : A) → Ordered Q (f x)) → ((x y : A) → O x y → All (λ u. All (Q u) (f y)) (f x))
      → (l : List A) → Ordered O l → Ordered Q (flatten (map f l))
  unfolding flatten
  ordered_gather O Q own across [] h = tt
  ordered_gather O Q own across (x ∷ l) h =
      ordered_append Q (f x) (flatten (map f l)) (own x) (ordered_gather O Q own across l h.1) (later (f x) l h.0 (λ y o. across x y o))
    where
      joined : (us : List B) (y : A) (ls : List A) → All (λ u. All (Q u) (f y)) us → All (λ u. All (Q u) (flatten (map f ls))) us
          → All (λ u. All (Q u) (f y ++ flatten (map f ls))) us
      joined [] y ls h k = tt
      joined (u ∷ us) y ls h k = (all_append (Q u) (f y) (flatten (map f ls)) h.0 k.0, joined us y ls h.1 k.1)

      later : (us : List B) (ls : List A) → All (O x) ls → ((y : A) → O x y → All (λ u. All (Q u) (f y)) us) → All (λ u. All (Q u) (flatten (map f ls))) us
      later us [] o c = all_of (λ u. All (Q u) (flatten (map f []))) (λ u. tt) us
      later us (y ∷ ls) o c = joined us y ls (c y o.0) (later us ls o.1 c)

module _ {A B : Type 0} (f : A → B) where
  pub all_through : (P : B → Type 0) (l : List A) → All (λ x. P (f x)) l → All P (map f l)
  all_through P [] h = tt
  all_through P (x ∷ l) h = (h.0, all_through P l h.1)

  pub among_map : (x : A) (l : List A) → Among x l → Among (f x) (map f l)
  among_map x [] h = absurd h
  among_map x (y ∷ l) h = ⊎_elim {C = Among (f x) (f y ∷ map f l)} (λ e. inl (ap f e)) (λ k. inr (among_map x l k)) h

  pub ordered_map : (O : A → A → Type 0) (Q : B → B → Type 0) → ((x y : A) → O x y → Q (f x) (f y)) → (l : List A) → Ordered O l → Ordered Q (map f l)
  ordered_map O Q h [] o = tt
  ordered_map O Q h (x ∷ l) o = (all_through (Q (f x)) l (all_map (O x) (λ y. Q (f x) (f y)) (h x) l o.0), ordered_map O Q h l o.1)

-- Parts that are there

module _ {A : Type 0} where
  pub all_flatten : (P : A → Type 0) (ls : List (List A)) → All (All P) ls → All P (flatten ls)
  unfolding flatten
  all_flatten P [] h = tt
  all_flatten P (l ∷ ls) h = all_append P l (flatten ls) h.0 (all_flatten P ls h.1)

  pub among_flatten : (x : A) (l : List A) (ls : List (List A)) → Among l ls → Among x l → Among x (flatten ls)
  unfolding flatten
  among_flatten x l [] h k = absurd h
  among_flatten x l (m ∷ ls) h k = ⊎_elim {C = Among x (m ++ flatten ls)} (λ e. among_left x m (flatten ls) (rw e at k)) (λ g. among_right x m (flatten ls) (among_flatten x l ls g k)) h

  pub all_table : (P : A → Type 0) (k : ℕ) (f : ℕ → A) → ((i : ℕ) → i < k → P (f i)) → All P (tabulate k f)
  unfolding tabulate
  all_table P zero f h = tt
  all_table P (suc k) f h = (h 0 (omega arith), all_table P k (λ i. f (suc i)) (λ i g. h (suc i) (omega arith)))

  pub among_table : (k : ℕ) (f : ℕ → A) (i : ℕ) → i < k → Among (f i) (tabulate k f)
  unfolding tabulate
  among_table zero f i h = absurd (omega arith)
  among_table (suc k) f zero h = inl refl
  among_table (suc k) f (suc i) h = inr (among_table k (λ j. f (suc j)) i (omega arith))

-- One making after another

pub flatten_append : {A : Type 0} (ls ms : List (List A)) → flatten (ls ++ ms) ≡ flatten ls ++ flatten ms
unfolding flatten
flatten_append [] ms = refl
flatten_append (l ∷ ls) ms = ap (λ w. l ++ w) (flatten_append ls ms) ∙ sym (append_assoc l (flatten ls) (flatten ms))

pub gather_gather : {A B C : Type 0} (f : B → List C) (g : A → List B) (l : List A)
    → flatten (map f (flatten (map g l))) ≡ flatten (map (λ x. flatten (map f (g x))) l)
unfolding flatten
gather_gather f g [] = refl
gather_gather f g (x ∷ l) =
    ap flatten (map-append f (g x) (flatten (map g l))) ∙ flatten_append (map f (g x)) (map f (flatten (map g l))) ∙ ap (λ w. flatten (map f (g x)) ++ w) (gather_gather f g l)

pub map_same : {A B : Type 0} (f g : A → B) → ((x : A) → f x ≡ g x) → (l : List A) → map f l ≡ map g l
map_same f g e [] = refl
map_same f g e (x ∷ l) = ap₂ (λ u v. u ∷ v) (e x) (map_same f g e l)
