-- Worked inputs: whole schedules, document 01's P7 to P12 among them, one record after a header, and the mask that goes with a header. One theorem covers each
-- table. Assumes nothing.
use mathlib.Core.Path.{◌≡◌, refl, ap}
use mathlib.Core.Bool.{Bool, true, ◌&&◌}
use mathlib.Core.List.{List, [], ◌∷◌, map}
use Prim.Native.Nat.{ℕ, zero, suc}
use native.Mathlib.Omega.{arith}
use lib.Dec.{eqb}
use lib.ListN.{length, replicate}
use Rattle.std.specs.Prelude.{Option, Some, None}
use Rattle.number.specs.Refusal.{Handed, hands, refusal_number, accepted}
use Rattle.kind.specs.Step.{AllInRange}
use Rattle.schedule.specs.Types.{Kind, Step, Header, Refusal}
use Rattle.schedule.specs.Reader.{ReadHanded, reader_hands}
use Rattle.schedule.specs.Context.{all_of}
use Rattle.schedule.specs.Schedule.{Reading, Accepted, Refused, steps_from, read_schedule, steps_bytes, schedule_bytes}
use Rattle.schedule.specs.RoundTrip.{too_long}
use Rattle.schedule.proofs.RoundTrip.{steps_kept, first_refusal}

abbrev pub same : Handed → Handed → Bool
same x y = eqb x.number y.number && eqb x.value y.value

abbrev pub all_hold : {A : Type 0} → (A → Bool) → List A → Bool
all_hold holds [] = true
all_hold holds (c ∷ cs) = holds c && all_hold holds cs

-- Whole schedules: 0 and how many steps there are, or the refusal's number and place

abbrev reading_hands : Reading → Handed
reading_hands (Accepted h steps) = hands accepted (length steps)
reading_hands (Refused k place) = hands (refusal_number k) place

record ScheduleCase : Type 0 where
  bytes : List ℕ
  handed : Handed

abbrev schedule : List ℕ → ℕ → ℕ → ScheduleCase
schedule bytes k v = record { bytes = bytes; handed = hands k v }

abbrev schedules : List ScheduleCase
schedules =
    -- P7 to P12
    schedule [] 1 0
    ∷ schedule (1 ∷ 8 ∷ 255 ∷ []) 0 0
    ∷ schedule (1 ∷ 9 ∷ 0 ∷ []) 5 0
    ∷ schedule (1 ∷ 1 ∷ 2 ∷ []) 5 0
    ∷ schedule (2 ∷ []) 4 0
    ∷ schedule (1 ∷ 1 ∷ 1 ∷ 6 ∷ 1 ∷ []) 3 3
    -- every kind
    ∷ schedule (1 ∷ 1 ∷ 1 ∷ 2 ∷ 3 ∷ 1 ∷ 1 ∷ 4 ∷ 5 ∷ 1 ∷ 5 ∷ 2 ∷ 1 ∷ 6 ∷ 0 ∷ 1 ∷ 7 ∷ 1 ∷ 1 ∷ 8 ∷ 0 ∷ 9 ∷ 1 ∷ 10 ∷ 1 ∷ []) 0 9
    -- order of each record: 2 before 4; 3 before 4, first and later; 4 before 5
    ∷ schedule (255 ∷ []) 2 0
    ∷ schedule (0 ∷ 1 ∷ 1 ∷ []) 2 0
    ∷ schedule (3 ∷ []) 3 0
    ∷ schedule (3 ∷ 9 ∷ 9 ∷ []) 4 0
    ∷ schedule (1 ∷ 1 ∷ 1 ∷ 1 ∷ 0 ∷ []) 3 3
    ∷ schedule (1 ∷ 1 ∷ 1 ∷ 1 ∷ 0 ∷ 0 ∷ []) 4 3
    ∷ schedule (1 ∷ 1 ∷ []) 3 0
    -- numbers: n 0; type 0 and 6; participant 0 and n + 1; log 0 and n + 1; party n + 1
    ∷ schedule (1 ∷ 0 ∷ 0 ∷ []) 5 0
    ∷ schedule (1 ∷ 2 ∷ 3 ∷ 3 ∷ 0 ∷ 1 ∷ []) 5 3
    ∷ schedule (1 ∷ 2 ∷ 3 ∷ 3 ∷ 6 ∷ 1 ∷ []) 5 3
    ∷ schedule (1 ∷ 2 ∷ 3 ∷ 4 ∷ 1 ∷ 0 ∷ []) 5 3
    ∷ schedule (1 ∷ 2 ∷ 3 ∷ 5 ∷ 1 ∷ 3 ∷ []) 5 3
    ∷ schedule (1 ∷ 2 ∷ 3 ∷ 6 ∷ 0 ∷ 0 ∷ []) 5 3
    ∷ schedule (1 ∷ 2 ∷ 3 ∷ 7 ∷ 2 ∷ 3 ∷ []) 5 3
    ∷ schedule (1 ∷ 2 ∷ 3 ∷ 6 ∷ 3 ∷ 1 ∷ []) 5 3
    ∷ schedule (1 ∷ 2 ∷ 3 ∷ 8 ∷ 3 ∷ []) 5 3
    -- the first refusal from the left
    ∷ schedule (1 ∷ 1 ∷ 1 ∷ 2 ∷ 8 ∷ 2 ∷ 12 ∷ []) 5 4
    ∷ schedule (1 ∷ 1 ∷ 1 ∷ 2 ∷ 8 ∷ 1 ∷ 12 ∷ []) 2 6
    -- request 2026-03: header 0B with n 1 to 32 and votes within n; the 32nd vote is the highest bit of the last byte
    ∷ schedule (11 ∷ 1 ∷ 1 ∷ 0 ∷ 0 ∷ 0 ∷ []) 0 0
    ∷ schedule (11 ∷ 9 ∷ 0 ∷ 1 ∷ 0 ∷ 0 ∷ []) 0 0
    ∷ schedule (11 ∷ 9 ∷ 0 ∷ 2 ∷ 0 ∷ 0 ∷ []) 5 0
    ∷ schedule (11 ∷ 31 ∷ 255 ∷ 255 ∷ 255 ∷ 127 ∷ []) 0 0
    ∷ schedule (11 ∷ 31 ∷ 0 ∷ 0 ∷ 0 ∷ 128 ∷ []) 5 0
    ∷ schedule (11 ∷ 32 ∷ 255 ∷ 255 ∷ 255 ∷ 255 ∷ []) 0 0
    ∷ schedule (11 ∷ 33 ∷ 0 ∷ 0 ∷ 0 ∷ 0 ∷ []) 5 0
    ∷ schedule (11 ∷ 0 ∷ 0 ∷ 0 ∷ 0 ∷ 0 ∷ []) 5 0
    -- cut anywhere in its body it is 3; a header of either kind later is 4, before 5
    ∷ schedule (11 ∷ []) 3 0
    ∷ schedule (11 ∷ 33 ∷ []) 3 0
    ∷ schedule (11 ∷ 33 ∷ 0 ∷ 0 ∷ 0 ∷ []) 3 0
    ∷ schedule (1 ∷ 1 ∷ 1 ∷ 11 ∷ 0 ∷ 0 ∷ 0 ∷ 0 ∷ []) 3 3
    ∷ schedule (1 ∷ 1 ∷ 1 ∷ 11 ∷ 0 ∷ 0 ∷ 0 ∷ 0 ∷ 0 ∷ []) 4 3
    ∷ schedule (11 ∷ 1 ∷ 1 ∷ 0 ∷ 0 ∷ 0 ∷ 1 ∷ 0 ∷ 0 ∷ []) 4 6
    ∷ schedule (11 ∷ 1 ∷ 1 ∷ 0 ∷ 0 ∷ 0 ∷ 11 ∷ 0 ∷ 0 ∷ 0 ∷ 0 ∷ 0 ∷ []) 4 6
    -- participants, parties and logs up to 32 under it
    ∷ schedule (11 ∷ 32 ∷ 0 ∷ 0 ∷ 0 ∷ 0 ∷ 3 ∷ 5 ∷ 32 ∷ 6 ∷ 32 ∷ 32 ∷ 8 ∷ 32 ∷ []) 0 3
    ∷ schedule (11 ∷ 32 ∷ 0 ∷ 0 ∷ 0 ∷ 0 ∷ 6 ∷ 33 ∷ 1 ∷ []) 5 6
    ∷ schedule (11 ∷ 32 ∷ 0 ∷ 0 ∷ 0 ∷ 0 ∷ 6 ∷ 0 ∷ 33 ∷ []) 5 6
    ∷ []

schedules_hold : all_hold (λ c. same (reading_hands (read_schedule c.bytes)) c.handed) schedules ≡ true
unfolding steps_from
schedules_hold = refl

-- 32,768 bytes are read: a header and 32,765 starts. One start more is refused

starts_length : (m : ℕ) → length (steps_bytes (replicate m Step.Start)) ≡ m
starts_length zero = refl
starts_length (suc m) = ap suc (starts_length m)

starts_in_range : (n m : ℕ) → AllInRange n (replicate m Step.Start)
starts_in_range n zero = tt
starts_in_range n (suc m) = (refl, starts_in_range n m)

abbrev one_participant : Header
one_participant = record { kind = Kind.Header; n = 1; votes = 1 }

longest_read : read_schedule (schedule_bytes one_participant (replicate 32765 Step.Start)) ≡ Accepted one_participant (replicate 32765 Step.Start)
longest_read =
    steps_kept one_participant (replicate 32765 Step.Start) refl (starts_in_range 1 32765) (omega (arith, starts_length 32765))

longer_refused : read_schedule (schedule_bytes one_participant (replicate 32766 Step.Start)) ≡ Refused Refusal.EmptyOrTooLong 0
longer_refused =
    first_refusal.given (schedule_bytes one_participant (replicate 32766 Step.Start)) Refusal.EmptyOrTooLong 0 (too_long (omega (arith, starts_length 32766)))

-- One record after a header, or as the header: its length and its numbers, or the refusal's number and place

record ReadCase : Type 0 where
  bytes : List ℕ
  told : Option Header
  handed : ReadHanded

abbrev read : List ℕ → Option Header → ReadHanded → ReadCase
read bytes told x = record { bytes = bytes; told = told; handed = x }

-- words of the table

abbrev after : Kind → ℕ → ℕ → Option Header
after kind n votes = Some (record { kind = kind; n = n; votes = votes })

abbrev yields : ℕ → ℕ → ℕ → ℕ → ReadHanded
yields l k a b = record { number = 0; value = l; kind = k; first = a; second = b }

abbrev refuses : ℕ → ℕ → ReadHanded
refuses k place = record { number = k; value = place; kind = 0; first = 0; second = 0 }

abbrev reads : List ReadCase
reads =
    -- what follows the record is not looked at
    read (8 ∷ 1 ∷ 255 ∷ 255 ∷ []) (after Kind.Header 1 0) (yields 2 8 1 0)
    ∷ read (2 ∷ 255 ∷ []) (after Kind.Header 8 255) (yields 1 2 0 0)
    ∷ read (7 ∷ 3 ∷ 2 ∷ 255 ∷ []) (after Kind.Header 8 255) (yields 3 7 3 2)
    -- no bytes; a header told that is out of range is refused last
    ∷ read [] (after Kind.Header 1 0) (refuses 1 0)
    ∷ read (2 ∷ []) (after Kind.Header 0 0) (refuses 5 0)
    ∷ read (2 ∷ []) (after Kind.Header 9 0) (refuses 5 0)
    ∷ read (2 ∷ []) (after Kind.Header 4294967295 0) (refuses 5 0)
    ∷ read (2 ∷ []) (after Kind.Header 1 2) (refuses 5 0)
    ∷ read (12 ∷ []) (after Kind.Header 9 0) (refuses 2 0)
    ∷ read (6 ∷ 1 ∷ []) (after Kind.Header 9 0) (refuses 3 0)
    ∷ read (1 ∷ 1 ∷ 1 ∷ []) (after Kind.Header 9 0) (refuses 4 0)
    -- the kind of the header told gives it room; a step's kind is no header's
    ∷ read (2 ∷ []) (after Kind.WideHeader 9 0) (yields 1 2 0 0)
    ∷ read (2 ∷ []) (after Kind.WideHeader 32 4294967295) (yields 1 2 0 0)
    ∷ read (2 ∷ []) (after Kind.WideHeader 33 0) (refuses 5 0)
    ∷ read (2 ∷ []) (after Kind.WideHeader 31 2147483648) (refuses 5 0)
    ∷ read (11 ∷ 1 ∷ 0 ∷ 0 ∷ 0 ∷ []) (after Kind.WideHeader 33 0) (refuses 3 0)
    ∷ read (11 ∷ 1 ∷ 0 ∷ 0 ∷ 0 ∷ 0 ∷ []) (after Kind.WideHeader 33 0) (refuses 4 0)
    ∷ read (2 ∷ []) (after Kind.Start 1 0) (refuses 5 0)
    -- the header; the four bytes of a mask, low byte first
    ∷ read (1 ∷ 8 ∷ 129 ∷ 2 ∷ []) None (yields 3 1 8 129)
    ∷ read (11 ∷ 20 ∷ 1 ∷ 2 ∷ 4 ∷ 0 ∷ []) None (yields 6 11 20 262657)
    ∷ []

reads_hold : map (λ c. reader_hands c.bytes c.told) reads ≡ map (λ c. c.handed) reads
reads_hold = refl

-- Request 2026-05: the mask that is handed on with a header, which is that of its n, and 0 where the header is out of range

record MaskCase : Type 0 where
  header : Header
  mask : ℕ

abbrev gives : Kind → ℕ → ℕ → ℕ → MaskCase
gives kind n votes mask = record { header = record { kind = kind; n = n; votes = votes }; mask = mask }

abbrev masks : List MaskCase
masks =
    gives Kind.Header 1 0 1
    ∷ gives Kind.Header 2 3 3
    ∷ gives Kind.Header 8 0 255
    ∷ gives Kind.WideHeader 9 1 511
    ∷ gives Kind.WideHeader 31 0 2147483647
    ∷ gives Kind.WideHeader 32 4294967295 4294967295
    -- n 0 and beyond the room of the kind, a vote beyond n, a step's kind
    ∷ gives Kind.Header 0 0 0
    ∷ gives Kind.Header 9 0 0
    ∷ gives Kind.WideHeader 33 0 0
    ∷ gives Kind.WideHeader 4294967295 0 0
    ∷ gives Kind.Header 2 4 0
    ∷ gives Kind.Start 1 0 0
    ∷ []

masks_hold : map (λ c. all_of c.header) masks ≡ map (λ c. c.mask) masks
masks_hold = refl
