-- What the reader answers, by its first three tests. Assumes nothing.
use mathlib.Core.Path.{◌≡◌, refl, subst}
use mathlib.Core.Bool.{Bool, true, false, cond}
use mathlib.Core.List.{List}
use Prim.Native.Nat.{ℕ, ◌<◌}
use lib.Dec.{eqb, leb}
use lib.ListN.{length, get_or}
use borrow.Author.Tests.{leb-false}
use Rattle.std.specs.Prelude.{Option, Ok, Err}
use Rattle.kind.specs.Kind.{kind_of, is_kind, body_length}
use Rattle.schedule.specs.Types.{Kind, Header, Refusal}
use Rattle.schedule.specs.Reader.{Read, refused, is_placed, body_answer, record_at, reader_answers}
use Rattle.schedule.specs.Found.{kind_at}

-- what is left of the answer: the fourth test and the fifth
abbrev pub placed_answer : List ℕ → Option Header → Kind → Read
placed_answer bytes before k = cond (is_placed before k) (body_answer before (record_at bytes k)) (refused Refusal.HeaderMisplaced)

module _ (bytes : List ℕ) (before : Option Header) where
  pub found_refused : (n : Refusal) → kind_at bytes ≡ Err n → refused n ≡ reader_answers bytes before
  found_refused n e =
      go (eqb (length bytes) 0) refl (is_kind (get_or bytes 0 0)) refl (leb (length bytes) (body_length (kind_of (get_or bytes 0 0)))) refl
    where
      go : (a : Bool) → eqb (length bytes) 0 ≡ a → (b : Bool) → is_kind (get_or bytes 0 0) ≡ b → (c : Bool)
          → leb (length bytes) (body_length (kind_of (get_or bytes 0 0))) ≡ c → refused n ≡ reader_answers bytes before
      go true p b q c r = let z = rw p at e in rw p (cc (z))
      go false p false q c r = let z = rw (p, q) at e in rw (p, q) (cc (z))
      go false p true q true r = let z = rw (p, q, r) at e in rw (p, q, r) (cc (z))
      go false p true q false r = let z = rw (p, q, r) at e in absurd (cc (z))

  -- and the body of a known kind is all there
  pub found_known : (x : Kind) → kind_at bytes ≡ Ok x
      → (reader_answers bytes before ≡ placed_answer bytes before x) × (body_length x < length bytes)
  found_known x e =
      go (eqb (length bytes) 0) refl (is_kind (get_or bytes 0 0)) refl (leb (length bytes) (body_length (kind_of (get_or bytes 0 0)))) refl
    where
      go : (a : Bool) → eqb (length bytes) 0 ≡ a → (b : Bool) → is_kind (get_or bytes 0 0) ≡ b → (c : Bool)
          → leb (length bytes) (body_length (kind_of (get_or bytes 0 0))) ≡ c
          → (reader_answers bytes before ≡ placed_answer bytes before x) × (body_length x < length bytes)
      go true p b q c r = let z = rw p at e in absurd (cc (z))
      go false p false q c r = let z = rw (p, q) at e in absurd (cc (z))
      go false p true q true r = let z = rw (p, q, r) at e in absurd (cc (z))
      go false p true q false r =
          let z = rw (p, q, r) at e in
          let w : kind_of (get_or bytes 0 0) ≡ x = cc (z) in
          (rw (p, q, r, w) refl, subst (λ k. body_length k < length bytes) w (leb-false (length bytes) (body_length (kind_of (get_or bytes 0 0))) r))
