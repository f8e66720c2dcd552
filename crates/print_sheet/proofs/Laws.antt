-- The line of a schedule byte by byte, and the lines of schedules one after another. Assumes nothing.
use mathlib.Core.Path.{◌≡◌, refl, sym, ap, ap₂, ◌∙◌}
use mathlib.Core.List.{List, [], ◌∷◌, ◌++◌, flatten}
use Prim.Native.Nat.{ℕ, suc, ◌+◌, ◌-◌, ◌*◌, ◌≤◌, ◌<◌}
use native.Mathlib.Omega.{arith}
use native.Mathlib.Numerals.{add-one}
use lib.ListN.{length, get_or, take, drop, length-append, length-drop, drop_of_length-le}
use lib.Seq.{sets, length-sets, length-take-le, drop-cons, drop-drop}
use Rattle.number.proofs.Lists.{sets_append}
use Rattle.text.specs.Text.{hexadecimal}
use Rattle.text.specs.Put.{Put, each}
use Rattle.text.proofs.Putting.{put_then}
use Rattle.parts.specs.Parts.{parts, parts_up_to, part_length}
use Rattle.parts.proofs.Laws.{part_le, whole}
use Rattle.figures.proofs.Kept.{first_of}
use Rattle.print_sheet.specs.Lines.{separator, line_of}

-- three characters a byte
pub line_long : (bytes : List ℕ) → length (line_of bytes) ≡ 3 * length bytes
unfolding line_of
line_long [] = refl
line_long (b ∷ bytes) = omega (arith, line_long bytes)

pub digits_long : (b : ℕ) → length (hexadecimal (b ∷ [])) ≡ 2
unfolding hexadecimal
digits_long b = refl

-- the first byte of what is left, and those after it

module _ (bytes : List ℕ) (i : ℕ) where
  line_end : length bytes ≤ i → line_of (drop i bytes) ≡ []
  unfolding line_of
  line_end h = ap line_of (drop_of_length-le bytes h)

  abbrev digits : List ℕ
  digits = hexadecimal (get_or bytes i 0 ∷ [])

  abbrev after : List ℕ
  after = separator (length bytes - (i + 1)) ∷ []

  first_byte : i < length bytes → line_of (drop i bytes) ≡ (digits ++ after) ++ line_of (drop (i + 1) bytes)
  unfolding line_of hexadecimal
  first_byte some =
      ap line_of (drop-cons bytes i 0 some)
      ∙ ap (λ n. digits ++ (separator n ∷ line_of (drop (suc i) bytes))) (length-drop (suc i) bytes)
      ∙ ap (λ k. digits ++ (separator (length bytes - k) ∷ line_of (drop k bytes))) (sym (add-one i))

  pub line_left : i < length bytes → length (line_of (drop i bytes)) ≡ 3 + length (line_of (drop (i + 1) bytes))
  line_left some =
      ap length (first_byte some)
      ∙ omega (arith, length-append (digits ++ after) (line_of (drop (i + 1) bytes)), length-append digits after, digits_long (get_or bytes i 0))

-- before byte i, with `at` the place after those before: what is left gives what the whole gives
pub record LineLeft (bytes out₀ : List ℕ) (place : ℕ) (out : List ℕ) (at i : ℕ) : Type 0 where
  pub same : length out ≡ length out₀
  pub end : at + length (line_of (drop i bytes)) ≡ place + length (line_of bytes)
  pub rest : sets out at (line_of (drop i bytes)) ≡ sets out₀ place (line_of bytes)

module _ (bytes out₀ : List ℕ) (place : ℕ) (out : List ℕ) (at i : ℕ) (g : LineLeft bytes out₀ place out at i) where
  -- one turn
  pub byte_next : i < length bytes → (between : List ℕ) (middle : ℕ) (last : List ℕ) (end : ℕ)
      → Put out at (hexadecimal (get_or bytes i 0 ∷ [])) middle between
      → Put between middle (separator (length bytes - (i + 1)) ∷ []) end last
      → LineLeft bytes out₀ place last end (i + 1)
  byte_next some between middle last end p q =
      let both : List ℕ = digits bytes i ++ after bytes i in
      let put : Put out at both end last = put_then p q in
      rw (put.ends, put.leaves) (record {
        same = length-sets out at both ∙ g.same;
        end = omega (arith, line_left bytes i some, length-append (digits bytes i) (after bytes i), digits_long (get_or bytes i 0), g.end);
        rest = sym (sets_append out at both (line_of (drop (i + 1) bytes))) ∙ ap (sets out at) (sym (first_byte bytes i some)) ∙ g.rest;
      })

  pub line_done : length bytes ≤ i → Put out₀ place (line_of bytes) at out
  line_done done =
      let none : line_of (drop i bytes) ≡ [] = line_end bytes i done in
      record { ends = omega (arith, ap length none, g.end); leaves = ap (sets out at) (sym none) ∙ g.rest }

-- what the loop's goals ask for
pub ruleset putting_bytes = (digits_long, line_left, byte_next, line_done)

-- What holds while lines are put: before the schedule that begins at a place

part_fits : (file : List ℕ) → 0 < length file → (0 < part_length file) × (part_length file ≤ length file)
part_fits [] h = absurd (omega arith)
part_fits (x ∷ file) h = (omega arith, part_le x file)

module _ (s : List ℕ) (at : ℕ) (more : at < length s) where
  left : 0 < length (drop at s)
  left = omega (arith, length-drop at s, more)

  pub part_some : at < at + part_length (drop at s)
  part_some = omega (arith, (part_fits (drop at s) left).0)

  pub part_within : at + part_length (drop at s) ≤ length s
  part_within = omega (arith, (part_fits (drop at s) left).1, length-drop at s)

-- the line of a part
pub part_line : (s : List ℕ) (at end : ℕ) → at ≤ end → end ≤ length s → length (line_of (take (end - at) (drop at s))) ≡ 3 * (end - at)
part_line s at end h k = omega (arith, line_long (take (end - at) (drop at s)), length-take-le (end - at) (drop at s) (omega (arith, length-drop at s)))

-- lines have three characters a byte

lines_of : (ps : List (List ℕ)) → length (each line_of ps) ≡ 3 * length (flatten ps)
unfolding each flatten
lines_of [] = refl
lines_of (p ∷ ps) = omega (arith, length-append (line_of p) (each line_of ps), length-append p (flatten ps), line_long p, lines_of ps)

pub lines_long : (file : List ℕ) → length (each line_of (parts file)) ≡ 3 * length file
lines_long file = lines_of (parts file) ∙ ap (λ (l : List ℕ). 3 * length l) (whole file)

pub record Printing (s out₀ out : List ℕ) (place at : ℕ) : Type 0 where
  pub within : at ≤ length s
  pub there : place ≡ 3 * at
  pub same : length out ≡ length out₀
  pub rest : sets out place (each line_of (parts (drop at s))) ≡ sets out₀ 0 (each line_of (parts s))

module _ {s out₀ out : List ℕ} {place at : ℕ} (g : Printing s out₀ out place at) where
  module _ (more : at < length s) {end : ℕ} (ends : end ≡ at + part_length (drop at s)) where
    within : (at < end) × (end ≤ length s)
    within = (omega (arith, ends, part_some s at more), omega (arith, ends, part_within s at more))

    part : take (end - at) (drop at s) ≡ take (part_length (drop at s)) (drop at s)
    part = let size : end - at ≡ part_length (drop at s) = omega (arith, ends) in ap (λ k. take k (drop at s)) size

    -- one turn
    pub print_next : {next : ℕ} {after : List ℕ} → Put out place (line_of (take (end - at) (drop at s))) next after → Printing s out₀ after next end
    unfolding each
    print_next {next} {after} put =
        let line : List ℕ = line_of (take (end - at) (drop at s)) in
        let rest : drop (part_length (drop at s)) (drop at s) ≡ drop end s = drop-drop (part_length (drop at s)) at s ∙ ap (λ k. drop k s) (sym ends) in
        let first : each line_of (parts (drop at s)) ≡ line ++ each line_of (parts (drop end s)) =
        ap (each line_of) (first_of (drop at s) (left s at more)) ∙ ap₂ (λ (x y : List ℕ). line_of x ++ each line_of (parts y)) (sym part) rest in
        record {
          within = within.1;
          there = omega (arith, put.ends, g.there, part_line s at end (omega (arith, within.0)) within.1, within.0);
          same = ap length put.leaves ∙ length-sets out place line ∙ g.same;
          rest =
              ap₂ (λ (l : List ℕ) (k : ℕ). sets l k (each line_of (parts (drop end s)))) put.leaves put.ends
              ∙ sym (sets_append out place line (each line_of (parts (drop end s))))
              ∙ ap (sets out place) (sym first)
              ∙ g.rest;
        }

  pub printed : length s ≤ at → Put out₀ 0 (each line_of (parts s)) place out
  unfolding each parts_up_to
  printed end =
      let none : each line_of (parts (drop at s)) ≡ [] = ap (λ l. each line_of (parts l)) (drop_of_length-le s end) in
      record { ends = omega (arith, g.there, g.within, end, lines_long s); leaves = ap (sets out place) (sym none) ∙ g.rest }

-- what the loop's goals ask for
pub ruleset putting_lines = (part_some, part_within, part_line, print_next)
