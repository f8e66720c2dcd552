-- The schedules of a class file, one after another: the first and the others, and how far a schedule goes on from a place. Assumes nothing.
use mathlib.Core.Path.{◌≡◌, refl, sym, ap, ◌∙◌}
use mathlib.Core.Bool.{Bool, true, false, cond}
use mathlib.Core.List.{List, [], ◌∷◌, ◌++◌, flatten}
use Prim.Native.Nat.{ℕ, zero, suc, ◌+◌, ◌≤◌, ◌<◌}
use native.Mathlib.Omega.{arith}
use native.Mathlib.Decide.{dec_le}
use lib.ListN.{length, get_or, take, drop, length-drop, take-append-drop}
use lib.Seq.{drop-cons, drop-drop}
use Rattle.kind.specs.Kind.{kind_of, body_length, is_header}
use Rattle.kind.proofs.Numbers.{body_most}
use Rattle.schedule.specs.Reader.{length_at}
use Rattle.parts.specs.Parts.{rest_length, part_length, parts_up_to, parts}

-- a schedule ends within the file
pub rest_le : (bytes : List ℕ) (skip : ℕ) → rest_length bytes skip ≤ length bytes
unfolding rest_length
rest_le [] skip = omega arith
rest_le (x ∷ bytes) (suc skip) = omega (arith, rest_le bytes skip)
rest_le (x ∷ bytes) zero = go (is_header (kind_of x)) (rest_le bytes (body_length (kind_of x)))
  where
    go : (b : Bool) {k : ℕ} → k ≤ length bytes → cond b 0 (suc k) ≤ suc (length bytes)
    go true le = omega arith
    go false le = omega arith

pub part_le : (x : ℕ) (bytes : List ℕ) → part_length (x ∷ bytes) ≤ length (x ∷ bytes)
part_le x bytes = omega (arith, rest_le bytes (body_length (kind_of x)))

-- more steps than bytes make no difference
up_to : (most more : ℕ) (file : List ℕ) → length file ≤ most → most ≤ more → parts_up_to most file ≡ parts_up_to more file
unfolding parts_up_to
up_to zero zero [] h k = refl
up_to zero (suc more) [] h k = refl
up_to zero more (x ∷ file) h k = absurd (omega arith)
up_to (suc most) zero file h k = absurd (omega arith)
up_to (suc most) (suc more) [] h k = refl
up_to (suc most) (suc more) (x ∷ file) h k =
    ap (λ (l : List (List ℕ)). take (part_length (x ∷ file)) (x ∷ file) ∷ l)
    (up_to most more (drop (part_length (x ∷ file)) (x ∷ file)) (omega (arith, length-drop (part_length (x ∷ file)) (x ∷ file))) (omega arith))

-- the first schedule, and the others
pub first_part : (x : ℕ) (file : List ℕ) → parts (x ∷ file) ≡ take (part_length (x ∷ file)) (x ∷ file) ∷ parts (drop (part_length (x ∷ file)) (x ∷ file))
unfolding parts_up_to
first_part x file =
    let rest : List ℕ = drop (part_length (x ∷ file)) (x ∷ file) in
    ap (λ (l : List (List ℕ)). take (part_length (x ∷ file)) (x ∷ file) ∷ l)
    (sym (up_to (length rest) (length file) rest (omega arith) (omega (arith, length-drop (part_length (x ∷ file)) (x ∷ file)))))

-- together they are the file
parts_whole : (most : ℕ) (file : List ℕ) → length file ≤ most → flatten (parts_up_to most file) ≡ file
unfolding parts_up_to flatten
parts_whole zero [] h = refl
parts_whole zero (x ∷ file) h = absurd (omega arith)
parts_whole (suc most) [] h = refl
parts_whole (suc most) (x ∷ file) h =
    ap (λ (l : List ℕ). take (part_length (x ∷ file)) (x ∷ file) ++ l)
    (parts_whole most (drop (part_length (x ∷ file)) (x ∷ file)) (omega (arith, length-drop (part_length (x ∷ file)) (x ∷ file))))
    ∙ take-append-drop (part_length (x ∷ file)) (x ∷ file)

pub whole : (file : List ℕ) → flatten (parts file) ≡ file
whole file = parts_whole (length file) file (omega arith)

-- the bytes of a record are passed over, as far as they are there

pub rest_within : (bytes : List ℕ) (skip : ℕ) → skip ≤ length bytes → rest_length bytes skip ≡ skip + rest_length (drop skip bytes) 0
unfolding rest_length
rest_within [] zero h = refl
rest_within [] (suc skip) h = absurd (omega arith)
rest_within (x ∷ bytes) zero h = omega arith
rest_within (x ∷ bytes) (suc skip) h = omega (arith, rest_within bytes skip (omega arith))

rest_beyond : (bytes : List ℕ) (skip : ℕ) → length bytes ≤ skip → rest_length bytes skip ≡ length bytes
unfolding rest_length
rest_beyond [] skip h = refl
rest_beyond (x ∷ bytes) zero h = absurd (omega arith)
rest_beyond (x ∷ bytes) (suc skip) h = ap suc (rest_beyond bytes skip (omega arith))

-- Where the schedule ends that goes on at a place: within the file, or with it, where the body before the place is cut short

pub data EndsAt (file : List ℕ) (at : ℕ) : ℕ → Type 0 where
  within : {end : ℕ} → at ≤ length file → end ≡ at + rest_length (drop at file) 0 → EndsAt file at end
  beyond : {end : ℕ} → length file < at → end ≡ length file → EndsAt file at end

-- nothing is left at the end of the file
pub file_ends : (file : List ℕ) (at end : ℕ) → length file ≤ at → EndsAt file at end → end ≡ length file
file_ends file at end h (within le e) = omega (arith, e, rest_le (drop at file) 0, length-drop at file)
file_ends file at end h (beyond lt e) = e

module _ (file : List ℕ) (at : ℕ) (some : at < length file) where
  abbrev body : ℕ
  body = body_length (kind_of (get_or file at 0))

  abbrev rest : List ℕ
  rest = drop (suc at) file

  here : drop at file ≡ get_or file at 0 ∷ rest
  here = drop-cons file at 0 some

  size : length_at (drop at file) ≡ suc body
  size = ap length_at here ∙ omega arith

  pub size_most : (1 ≤ length_at (drop at file)) × (length_at (drop at file) ≤ 6)
  size_most = (omega (arith, size), omega (arith, size, body_most (kind_of (get_or file at 0))))

  -- after the record that begins there
  passed : (end : ℕ) → end ≡ at + suc (rest_length rest body) → EndsAt file (at + length_at (drop at file)) end
  passed end e = rw size (go (dec_le body (length rest)))
    where
      go : Dec (body ≤ length rest) → EndsAt file (at + suc body) end
      go (yes h) =
          let on : drop body rest ≡ drop (at + suc body) file = let far : suc at + body ≡ at + suc body = omega arith in drop-drop body (suc at) file ∙ ap (λ k. drop k file) far in
          within {end = end} (omega (arith, h, length-drop (suc at) file)) (omega (arith, e, rest_within rest body h, ap (λ l. rest_length l 0) on))
      go (no h) = beyond {end = end} (omega (arith, h, length-drop (suc at) file)) (omega (arith, e, rest_beyond rest body (omega (arith, h)), length-drop (suc at) file))

  pub first_passed : EndsAt file (at + length_at (drop at file)) (at + part_length (drop at file))
  first_passed = passed (at + part_length (drop at file)) (ap (λ l. at + part_length l) here)

  -- one record more: the next schedule begins, or the record is passed over

  goes_on : rest_length (drop at file) 0 ≡ cond (is_header (kind_of (get_or file at 0))) 0 (suc (rest_length rest body))
  unfolding rest_length
  goes_on = ap (λ l. rest_length l 0) here

  pub next_begins : {end : ℕ} → EndsAt file at end → is_header (kind_of (get_or file at 0)) ≡ true → at ≡ end
  next_begins (within le e) h = let none = goes_on ∙ ap (λ b. cond b 0 (suc (rest_length rest body))) h in omega (arith, e, none)
  next_begins (beyond lt e) h = absurd (omega arith)

  pub record_passes : {end : ℕ} → EndsAt file at end → is_header (kind_of (get_or file at 0)) ≡ false → EndsAt file (at + length_at (drop at file)) end
  record_passes {end} (within le e) h = let more = goes_on ∙ ap (λ b. cond b 0 (suc (rest_length rest body))) h in passed end (omega (arith, e, more))
  record_passes (beyond lt e) h = absurd (omega arith)
