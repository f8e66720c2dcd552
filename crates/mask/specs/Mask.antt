-- Sets of participants as numbers. Participant p stands at place p - 1: bit p - 1 of a mask means participant p.
-- The definitions name no width; every crate's rules and contracts cite them. Assumes nothing.
use Rattle.std.specs.Prelude.{Bool, ℕ, zero, suc, ◌+◌, ◌-◌, ◌*◌, ◌/◌, ◌%◌, ◌^◌, eqb, leb}

-- the bit at place i
abbrev pub bit : ℕ → ℕ → ℕ
bit zero m = m % 2
bit (suc i) m = bit i (m / 2)

-- place i is a member
abbrev pub has : ℕ → ℕ → Bool
has i m = eqb (bit i m) 1

-- with place i, and without it
abbrev pub insert : ℕ → ℕ → ℕ
insert zero m = m / 2 * 2 + 1
insert (suc i) m = insert i (m / 2) * 2 + m % 2

abbrev pub remove : ℕ → ℕ → ℕ
remove zero m = m / 2 * 2
remove (suc i) m = remove i (m / 2) * 2 + m % 2

-- participants 1 to n
abbrev pub full : ℕ → ℕ
full n = 2 ^ n - 1

-- a mask of participants 1 to n, that has nobody beyond n
abbrev pub within : ℕ → ℕ → Bool
within n m = leb m (full n)
