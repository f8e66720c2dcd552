-- Bytes put at a place of a buffer: what contracts of functions that fill a buffer cite. Assumes nothing.
use Rattle.std.specs.Prelude.{◌≡◌, List, [], ◌∷◌, ◌++◌, ℕ, ◌+◌, length}
use Rattle.std.proofs.lemmas.List.Edits.{sets}

-- `end` is the place after the bytes, and the buffer holds them and is otherwise as it was
pub record Put (before : List ℕ) (place : ℕ) (bytes : List ℕ) (end : ℕ) (after : List ℕ) : Type 0 where
  pub ends : end ≡ place + length bytes
  pub leaves : after ≡ sets before place bytes

-- the bytes of each element, one after the other
unfoldable pub each : {A : Type 0} → (A → List ℕ) → List A → List ℕ
each f [] = []
each f (x ∷ xs) = f x ++ each f xs
