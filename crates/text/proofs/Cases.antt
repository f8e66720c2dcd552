-- Worked texts: numbers in decimal and bytes in hexadecimal, beside the text as it reads. One theorem covers the table.
-- Assumes nothing.
use mathlib.Core.Path.{◌≡◌, refl}
use mathlib.Core.List.{List, [], ◌∷◌, map}
use Prim.Native.Nat.{ℕ}
use Prim.Native.String.{String}
use Rattle.text.specs.Text.{ascii, decimal, hexadecimal}

record TextCase : Type 0 where
  bytes : List ℕ
  reads : String

abbrev case : List ℕ → String → TextCase
case bytes reads = record { bytes = bytes; reads = reads }

abbrev cases : List TextCase
cases =
    -- one digit and more, no leading zero
    case (decimal 0) "0"
    ∷ case (decimal 9) "9"
    ∷ case (decimal 10) "10"
    ∷ case (decimal 100) "100"
    ∷ case (decimal 32765) "32765"
    ∷ case (decimal 65535) "65535"
    -- two lower-case digits a byte, the high one first
    ∷ case (hexadecimal []) ""
    ∷ case (hexadecimal (0 ∷ [])) "00"
    ∷ case (hexadecimal (9 ∷ 10 ∷ 15 ∷ 16 ∷ [])) "090a0f10"
    ∷ case (hexadecimal (1 ∷ 35 ∷ 69 ∷ 103 ∷ 137 ∷ 171 ∷ 205 ∷ 239 ∷ [])) "0123456789abcdef"
    ∷ case (hexadecimal (255 ∷ [])) "ff"
    ∷ []

cases_hold : map (λ c. c.bytes) cases ≡ map (λ c. ascii c.reads) cases
unfolding decimal hexadecimal
cases_hold = refl
