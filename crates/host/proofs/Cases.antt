-- The host entry on worked inputs, in document 01's numbers: what it refuses, and some that it takes. One theorem covers the table. Assumes nothing.
use mathlib.Core.Path.{◌≡◌, refl}
use mathlib.Core.Bool.{Bool, true, ◌&&◌}
use mathlib.Core.List.{List, [], ◌∷◌}
use Prim.Native.Nat.{ℕ}
use lib.Dec.{eqb}
use Rattle.host.specs.Host.{host_returns, host_leaves}

-- room in the buffer; n, own number, state, heard mask, event, detail, record; the number returned
record Case : Type 0 where
  room : ℕ
  n : ℕ
  own : ℕ
  state : ℕ
  heard : ℕ
  event : ℕ
  detail : ℕ
  answer : ℕ
  returned : ℕ

abbrev case : ℕ → ℕ → ℕ → ℕ → ℕ → ℕ → ℕ → ℕ → ℕ → Case
case room n own s h e d r k = record { room = room; n = n; own = own; state = s; heard = h; event = e; detail = d; answer = r; returned = k }

abbrev cases : List Case
cases =
    -- n and own
    case 6 0 1 0 0 3 0 0 5
    ∷ case 6 33 1 0 0 3 0 0 5
    ∷ case 6 4294967295 1 0 0 3 0 0 5
    ∷ case 6 2 0 0 0 3 0 0 5
    ∷ case 6 2 3 0 0 3 0 0 5
    -- state, and the heard mask: outside 4, full, beyond n, with the own bit; n = 1 in 4
    ∷ case 6 2 1 10 0 4 0 0 5
    ∷ case 6 2 1 3 2 3 0 0 5
    ∷ case 6 3 1 4 6 3 0 0 5
    ∷ case 6 3 1 4 8 3 0 0 5
    ∷ case 6 3 1 4 1 3 0 0 5
    ∷ case 6 1 1 4 0 3 0 0 5
    -- event, detail, record, and unused numbers that are not 0
    ∷ case 6 2 1 0 0 0 0 0 5
    ∷ case 6 2 1 0 0 7 0 0 5
    ∷ case 6 2 1 0 0 1 2 0 5
    ∷ case 6 2 1 3 0 2 1 0 5
    ∷ case 6 2 1 3 0 2 4 0 5
    ∷ case 6 2 1 1 0 6 0 1 5
    ∷ case 6 2 1 1 0 6 3 1 5
    ∷ case 6 2 1 1 0 6 1 0 5
    ∷ case 6 2 1 1 0 6 1 4 5
    ∷ case 6 2 1 0 0 1 1 1 5
    ∷ case 6 2 1 0 0 3 1 0 5
    ∷ case 6 2 1 0 0 4 0 2 5
    ∷ case 6 2 1 9 0 5 0 1 5
    -- not due: commit in 1; yes, or the other decision, in 5 or 6; a log that is not called
    ∷ case 6 2 1 1 0 6 1 3 7
    ∷ case 6 2 1 5 0 6 1 1 7
    ∷ case 6 2 1 5 0 6 1 2 7
    ∷ case 6 2 1 6 0 6 1 1 7
    ∷ case 6 2 1 6 0 6 1 3 7
    ∷ case 6 2 1 4 0 6 1 1 7
    ∷ case 6 3 1 4 2 6 2 1 7
    ∷ case 6 2 1 2 0 6 2 2 7
    ∷ case 6 2 1 0 0 6 1 1 7
    ∷ case 6 2 1 1 0 3 0 0 7
    ∷ case 6 2 1 9 0 4 0 0 7
    ∷ case 6 2 1 0 0 5 0 0 7
    -- a buffer of 0 to 5 bytes, after 5 and 7
    ∷ case 0 2 1 0 0 3 0 0 6
    ∷ case 1 2 1 0 0 3 0 0 6
    ∷ case 3 2 1 0 0 3 0 0 6
    ∷ case 5 2 1 0 0 3 0 0 6
    ∷ case 0 33 1 0 0 3 0 0 5
    ∷ case 0 2 1 1 0 3 0 0 7
    -- events 1 and 2 are always due, also when down
    ∷ case 6 2 1 9 0 1 1 0 0
    ∷ case 6 2 1 9 0 2 3 0 0
    ∷ case 6 2 1 7 0 2 2 0 0
    ∷ case 6 3 1 4 2 6 3 1 0
    -- request 2026-03: n and own up to 32; heard masks of 32 bits, with the own bit, full, and beyond 31
    ∷ case 6 32 32 4 0 3 0 0 0
    ∷ case 6 32 33 0 0 3 0 0 5
    ∷ case 6 32 1 4 2147483648 6 31 1 0
    ∷ case 6 32 32 4 2147483648 3 0 0 5
    ∷ case 6 32 1 4 4294967294 3 0 0 5
    ∷ case 6 31 1 4 2147483648 3 0 0 5
    ∷ case 6 32 1 4 2147483648 6 32 1 7
    ∷ case 6 32 1 1 0 6 33 1 5
    ∷ []

abbrev holds : Case → Bool
holds c = eqb (host_returns c.room c.n c.own c.state c.heard c.event c.detail c.answer) c.returned

abbrev all_hold : List Case → Bool
all_hold [] = true
all_hold (c ∷ cs) = holds c && all_hold cs

all_hold_lem : all_hold cases ≡ true
all_hold_lem = refl

-- participant 1 of 32 hears the last log: four bytes of the mask, the low one first
last_heard : host_leaves (7 ∷ 7 ∷ 7 ∷ 7 ∷ 7 ∷ 7 ∷ 7 ∷ []) 32 1 4 262656 6 32 1 ≡ (4 ∷ 0 ∷ 2 ∷ 4 ∷ 128 ∷ 0 ∷ 7 ∷ [])
last_heard = refl
