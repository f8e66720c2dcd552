-- Worked class files: their bytes, and what they must be answered and hand over. Two theorems cover the table: proofs/Cases.antt. Assumes nothing.
use Rattle.std.specs.Prelude.{◌≡◌, List, [], ◌∷◌, ◌++◌, map, ℕ, suc, ◌-◌, length, replicate, Result, Ok, Err}
use Rattle.number.specs.Refusal.{refusal_number}
use Rattle.store.specs.Log.{places}
use Rattle.figures.specs.Types.{Refused, Totals, Figures}
use Rattle.figures.specs.Figures.{class_answers, ClassHanded, class_hands}

-- schedules to put into a file: P1 of document 01 has an abort and four calls, three of them by participant 1, P2 a commit and two, P3 an abort and one;
-- two have a header alone; in the last one the coordinator and participant 32 make a call each

abbrev p1 : List ℕ
p1 = 0x01 ∷ 0x02 ∷ 0x03 ∷ 0x02 ∷ 0x03 ∷ 0x01 ∷ 0x01 ∷ 0x06 ∷ 0x01 ∷ 0x01 ∷ 0x08 ∷ 0x01 ∷ 0x06 ∷ 0x01 ∷ 0x02 ∷ 0x06 ∷ 0x01 ∷ 0x01 ∷ 0x03 ∷ 0x01 ∷ 0x02 ∷ 0x06 ∷ 0x02 ∷ 0x02 ∷ []

abbrev p2 : List ℕ
p2 = 0x01 ∷ 0x01 ∷ 0x01 ∷ 0x02 ∷ 0x03 ∷ 0x01 ∷ 0x01 ∷ 0x06 ∷ 0x01 ∷ 0x01 ∷ 0x08 ∷ 0x01 ∷ 0x06 ∷ 0x01 ∷ 0x01 ∷ []

abbrev p3 : List ℕ
p3 = 0x01 ∷ 0x02 ∷ 0x03 ∷ 0x09 ∷ 0x01 ∷ 0x0A ∷ 0x01 ∷ 0x06 ∷ 0x01 ∷ 0x01 ∷ []

abbrev narrow : List ℕ
narrow = 0x01 ∷ 0x01 ∷ 0x01 ∷ []

abbrev wide : List ℕ
wide = 0x0B ∷ 0x09 ∷ 0xFF ∷ 0x01 ∷ 0x00 ∷ 0x00 ∷ []

abbrev widest : List ℕ
widest = 0x0B ∷ 0x20 ∷ 0xFF ∷ 0xFF ∷ 0xFF ∷ 0xFF ∷ 0x02 ∷ 0x08 ∷ 0x00 ∷ 0x06 ∷ 0x00 ∷ 0x01 ∷ 0x08 ∷ 0x20 ∷ 0x06 ∷ 0x20 ∷ 0x20 ∷ []

-- figures, or the refusal's number and place

pub data Answered : Type 0 where
  gives : Figures → Answered
  refuses : ℕ → ℕ → Answered

abbrev pub answered : Result Figures Refused → Answered
answered (Ok f) = gives f
answered (Err r) = refuses (refusal_number r.refusal) r.value

pub record ClassCase : Type 0 where
  pub file : List ℕ
  pub must : Answered

abbrev refused : List ℕ → ℕ → ℕ → ClassCase
refused file k place = record { file = file; must = refuses k place }

-- the calls of the first parties; the others have none
abbrev none_after : List ℕ → List ℕ
none_after calls = calls ++ replicate (suc places - length calls) 0

-- totals, column, calls, and their mean with its remainder
abbrev has : List ℕ → Totals → List ℕ → ℕ → ℕ → ℕ → ClassCase
has file t column calls mean remainder =
    record { file = file; must = gives (record { totals = t; column = column; calls = calls; mean = mean; remainder = remainder }) }

abbrev pub cases : List ClassCase
cases =
    -- headers of both kinds; a header alone is a schedule with neither
    has (p1 ++ (wide ++ p2)) (record { schedules = 3; commit = 1; abort = 1; neither = 1; largest = 4; first = 1; sites = 9 }) (none_after (0 ∷ 5 ∷ 1 ∷ [])) 6 2 0
    -- of equal ones the first has the largest number, also where that is 0
    ∷ has (p3 ++ (p2 ++ p2)) (record { schedules = 3; commit = 2; abort = 1; neither = 0; largest = 2; first = 2; sites = 2 }) (none_after (0 ∷ 5 ∷ [])) 5 1 2
    ∷ has (narrow ++ wide) (record { schedules = 2; commit = 0; abort = 0; neither = 2; largest = 0; first = 1; sites = 9 }) (none_after []) 0 0 0
    -- the coordinator and party 32 have their entries
    ∷ has (p1 ++ widest) (record { schedules = 2; commit = 0; abort = 2; neither = 0; largest = 4; first = 1; sites = 32 })
    ((1 ∷ 3 ∷ 1 ∷ []) ++ (replicate 29 0 ++ (1 ∷ []))) 6 3 0
    -- no bytes
    ∷ refused [] 1 0
    -- the first record: unknown before cut short, and that before the missing header
    ∷ refused (0xFF ∷ []) 2 0
    ∷ refused (0x06 ∷ 0x01 ∷ []) 3 0
    ∷ refused (0x06 ∷ 0xFF ∷ 0xFF ∷ []) 4 0
    -- a later header: cut short, or out of range
    ∷ refused (narrow ++ (0x01 ∷ 0x01 ∷ [])) 3 3
    ∷ refused (wide ++ (0x01 ∷ 0x09 ∷ 0x00 ∷ [])) 5 6
    -- a later record, under the last header's n
    ∷ refused (p3 ++ (narrow ++ (0x08 ∷ 0x02 ∷ []))) 5 13
    ∷ refused (narrow ++ (0x00 ∷ [])) 2 3
    ∷ []

abbrev pub CasesHold : Type 0
CasesHold = map (λ c. answered (class_answers c.file)) cases ≡ map (λ c. c.must) cases

-- what each must hand over; every figure is 0 beside a refusal

abbrev nothing : Figures
nothing =
    record {
      totals = record { schedules = 0; commit = 0; abort = 0; neither = 0; largest = 0; first = 0; sites = 0 };
      column = none_after [];
      calls = 0;
      mean = 0;
      remainder = 0;
    }

abbrev pub must_hand : Answered → ClassHanded
must_hand (gives f) = record { number = 0; place = 0; figures = f }
must_hand (refuses k place) = record { number = k; place = place; figures = nothing }

abbrev pub CasesHand : Type 0
CasesHand = map (λ c. class_hands c.file) cases ≡ map (λ c. must_hand c.must) cases
