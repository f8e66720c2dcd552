-- Text as bytes: quoted text, numbers in decimal, bytes in hexadecimal. Assumes nothing.
use Rattle.std.specs.Prelude.{cond, List, [], ◌∷◌, ◌++◌, ℕ, zero, suc, ◌+◌, ◌/◌, ◌%◌, ltb}
use Prim.Native.Char.{code}
use Prim.Native.String.{String, [] as no_text, ◌∷◌ as ◌then◌}

-- the codes of a quoted text
abbrev pub ascii : String → List ℕ
ascii no_text = []
ascii (c then text) = code c ∷ ascii text

-- the code of a digit below 16: 0 to 9, then a to f
abbrev pub digit : ℕ → ℕ
digit d = cond (ltb d 10) (48 + d) (87 + d)

-- n in decimal: at most so many digits, and all that it has
abbrev pub digits_up_to : ℕ → ℕ → List ℕ
digits_up_to zero n = []
digits_up_to (suc most) n = cond (ltb n 10) (digit n ∷ []) (digits_up_to most (n / 10) ++ (digit (n % 10) ∷ []))

unfoldable pub decimal : ℕ → List ℕ
decimal n = digits_up_to (suc n) n

-- bytes in lower-case hexadecimal, two digits each
unfoldable pub hexadecimal : List ℕ → List ℕ
hexadecimal [] = []
hexadecimal (b ∷ bytes) = digit (b / 16) ∷ digit (b % 16) ∷ hexadecimal bytes

-- A refusal prints `refused K at B`
abbrev pub refusal_line : ℕ → ℕ → List ℕ
refusal_line k place = ascii "refused " ++ (decimal k ++ (ascii " at " ++ (decimal place ++ ascii "\n")))
