-- Worked inputs of the writer. One theorem covers the table. Assumes nothing.
use mathlib.Core.Path.{◌≡◌, refl}
use mathlib.Core.Bool.{true}
use mathlib.Core.List.{List, [], ◌∷◌}
use Prim.Native.Nat.{ℕ}
use Rattle.number.specs.Refusal.{Handed, hands}
use Rattle.writer.specs.Writer.{writer_hands, writer_leaves}
use Rattle.schedule.proofs.Cases.{same, all_hold}

-- The writer: 0 and the place after the record, or the refusal's number with the place given or the length needed

record WriteCase : Type 0 where
  room : ℕ
  place : ℕ
  kind : ℕ
  first : ℕ
  second : ℕ
  handed : Handed

abbrev write : ℕ → ℕ → ℕ → ℕ → ℕ → ℕ → ℕ → WriteCase
write room place kind a b k v =
    record { room = room; place = place; kind = kind; first = a; second = b; handed = hands k v }

abbrev writes : List WriteCase
writes =
    -- it knows no n: participants and logs 1 to 32, parties 0 to 32; a header by its own kind and n
    write 3 0 1 8 255 0 3
    ∷ write 3 0 1 8 256 5 0
    ∷ write 3 0 1 9 0 5 0
    ∷ write 3 0 1 1 2 5 0
    ∷ write 6 0 11 8 255 0 6
    ∷ write 6 0 11 32 4294967295 0 6
    ∷ write 6 0 11 31 2147483648 5 0
    ∷ write 6 0 11 33 0 5 0
    ∷ write 6 0 11 0 0 5 0
    ∷ write 9 5 3 5 32 0 8
    ∷ write 9 5 3 5 33 5 5
    ∷ write 9 5 3 6 1 5 5
    ∷ write 9 5 6 32 32 0 8
    ∷ write 9 5 6 0 0 5 5
    ∷ write 9 5 7 33 1 5 5
    ∷ write 9 5 10 32 0 0 7
    -- unused numbers are 0
    ∷ write 9 5 2 0 0 0 6
    ∷ write 9 5 2 1 0 5 5
    ∷ write 9 5 2 0 1 5 5
    ∷ write 9 5 8 1 1 5 5
    -- places 0 to 32,768; an unknown kind comes before a place out of range
    ∷ write 40000 32768 3 1 1 0 32771
    ∷ write 40000 32769 3 1 1 5 32769
    ∷ write 40000 32769 0 0 0 2 32769
    ∷ write 40000 7 4294967295 0 0 2 7
    -- too short after 2 and 5: the length needed
    ∷ write 0 0 2 0 0 6 1
    ∷ write 2 0 1 1 1 6 3
    ∷ write 32768 32768 9 0 0 6 32770
    ∷ write 5 0 11 1 1 6 6
    ∷ write 32773 32768 11 1 1 6 32774
    ∷ write 0 0 12 0 0 2 0
    ∷ write 0 0 8 33 0 5 0
    ∷ []

writes_hold : all_hold (λ c. same (writer_hands c.room c.place c.kind c.first c.second) c.handed) writes ≡ true
writes_hold = refl

-- the six bytes of a header 0B, the low byte of its mask first
wide_written : writer_leaves (7 ∷ 7 ∷ 7 ∷ 7 ∷ 7 ∷ 7 ∷ 7 ∷ 7 ∷ []) 1 11 20 262657 ≡ (7 ∷ 11 ∷ 20 ∷ 1 ∷ 2 ∷ 4 ∷ 0 ∷ 7 ∷ [])
wide_written = refl
