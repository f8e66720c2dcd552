-- Numbers as bytes, low byte first, for any number of bytes. Assumes nothing.
use Rattle.std.specs.Prelude.{List, [], ◌∷◌, ℕ, zero, suc, ◌+◌, ◌*◌, ◌/◌, ◌%◌, get_or, drop}

-- the low bytes of a number
abbrev pub low_bytes : ℕ → ℕ → List ℕ
low_bytes zero x = []
low_bytes (suc w) x = x % 256 ∷ low_bytes w (x / 256)

-- the number that the first bytes hold
abbrev pub low_number : ℕ → List ℕ → ℕ
low_number zero l = 0
low_number (suc w) l = get_or l 0 0 + 256 * low_number w (drop 1 l)
