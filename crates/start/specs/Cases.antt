-- Worked moves and starts, in the documents' numbers: what is taken and what is refused, field by field and in which order; and the bytes of a move.
-- One theorem covers the tables: proofs/Cases.antt. Assumes nothing.
use Rattle.std.specs.Prelude.{◌≡◌, List, [], ◌∷◌, ◌++◌, map, ℕ, replicate, set}
use Rattle.number.specs.Refusal.{Handed, hands, refusal_number}
use Rattle.schedule.specs.Schedule.{Reading, Accepted, Refused}
use Rattle.start.specs.Types.{Kind, Step, Header}
use Rattle.start.specs.Start.{read_from}
use Rattle.start.specs.Move.{moved_bytes, move_hands}

-- Tails of two participants, both of whom vote yes

-- 59 bytes; participant p has its state, heard mask, first and last record from 9 + 4 * (p - 1) on, party p its count at 41 + 2 * p, low byte first
abbrev narrow_fresh : List ℕ
narrow_fresh = 2 ∷ 3 ∷ replicate 57 0

-- 320 bytes: from 30 + 7 * (p - 1) on, and at 254 + 2 * p
abbrev wide_fresh : List ℕ
wide_fresh = 2 ∷ 3 ∷ replicate 318 0

-- a move into a buffer of `room` bytes: what it hands over

pub record MoveCase : Type 0 where
  pub room : ℕ
  pub tail : List ℕ
  pub must : Handed

abbrev move : ℕ → List ℕ → ℕ → ℕ → MoveCase
move room tail k v = record { room = room; tail = tail; must = hands k v }

abbrev pub moves : List MoveCase
moves =
    move 320 narrow_fresh 0 320
    -- lengths, whatever the fields are
    ∷ move 320 [] 10 0
    ∷ move 320 (replicate 58 0) 10 0
    ∷ move 320 (replicate 60 0) 10 0
    ∷ move 320 wide_fresh 10 0
    -- then fields: n of 0, 9 and 8; a vote and a message beyond n; a state that there is none; zeros beyond n
    ∷ move 320 (replicate 59 0) 5 0
    ∷ move 320 (set narrow_fresh 0 9) 5 0
    ∷ move 320 (set narrow_fresh 0 8) 0 320
    ∷ move 320 (set narrow_fresh 1 4) 5 0
    ∷ move 320 (set narrow_fresh 4 4) 5 0
    ∷ move 320 (set narrow_fresh 2 7) 5 0
    ∷ move 320 (set narrow_fresh 9 10) 5 0
    ∷ move 320 (set narrow_fresh 17 1) 5 0
    -- the heard mask of participant 1 in state 4: nobody, the own bit, and all others
    ∷ move 320 (set narrow_fresh 9 4) 0 320
    ∷ move 320 (set (set narrow_fresh 9 4) 10 1) 5 0
    ∷ move 320 (set (set narrow_fresh 9 4) 10 2) 5 0
    -- pairs: yes and abort, abort and yes
    ∷ move 320 (set (set narrow_fresh 11 1) 12 2) 0 320
    ∷ move 320 (set (set narrow_fresh 11 2) 12 1) 5 0
    -- a count of 54,000 and of 54,001 calls; one of a party beyond n
    ∷ move 320 (set (set narrow_fresh 41 240) 42 210) 0 320
    ∷ move 320 (set (set narrow_fresh 41 241) 42 210) 5 0
    ∷ move 320 (set narrow_fresh 47 1) 5 0
    -- then the buffer
    ∷ move 319 narrow_fresh 6 320
    ∷ move 0 (replicate 59 0) 5 0
    ∷ []

-- the bytes of a move: participant 1 of three has heard participant 2, all three logs have a yes, and calls were counted
abbrev pub moved_from : List ℕ
moved_from =
    (3 ∷ 7 ∷ 5 ∷ 0 ∷ 0 ∷ 7 ∷ 0 ∷ 0 ∷ 0 ∷ [])
    ++ ((4 ∷ 2 ∷ 1 ∷ 1 ∷ []) ++ ((3 ∷ 0 ∷ 1 ∷ 1 ∷ []) ++ ((3 ∷ 0 ∷ 1 ∷ 1 ∷ []) ++ (replicate 20 0 ++ (0 ∷ 0 ∷ 2 ∷ 0 ∷ 1 ∷ 0 ∷ 1 ∷ 0 ∷ replicate 10 0)))))

abbrev pub moved_to : List ℕ
moved_to =
    (3 ∷ 7 ∷ 0 ∷ 0 ∷ 0 ∷ 5 ∷ replicate 4 0)
    ++ (replicate 4 0 ++ ((7 ∷ 0 ∷ 0 ∷ 0 ∷ replicate 12 0)
    ++ ((4 ∷ 2 ∷ 0 ∷ 0 ∷ 0 ∷ 1 ∷ 1 ∷ []) ++ ((3 ∷ 0 ∷ 0 ∷ 0 ∷ 0 ∷ 1 ∷ 1 ∷ []) ++ ((3 ∷ 0 ∷ 0 ∷ 0 ∷ 0 ∷ 1 ∷ 1 ∷ []) ++ (replicate 203 0 ++ (0 ∷ 0 ∷ 2 ∷ 0 ∷ 1 ∷ 0 ∷ 1 ∷ 0 ∷ replicate 58 0)))))))

-- the steps from a tail, or the refusal's number and place

pub data Started : Type 0 where
  accepts : Header → List Step → Started
  refuses : ℕ → ℕ → Started

abbrev pub started : Reading → Started
started (Accepted h steps) = accepts h steps
started (Refused k place) = refuses (refusal_number k) place

pub record StartCase : Type 0 where
  pub tail : List ℕ
  pub bytes : List ℕ
  pub must : Started

abbrev start : List ℕ → List ℕ → Started → StartCase
start tail bytes must = record { tail = tail; bytes = bytes; must = must }

abbrev two : Header
two = record { kind = Kind.WideHeader; n = 2; votes = 3 }

abbrev pub starts : List StartCase
starts =
    -- an empty rest, and one of two steps
    start wide_fresh [] (accepts two [])
    ∷ start wide_fresh (0x02 ∷ 0x08 ∷ 0x02 ∷ []) (accepts two (Step.Start ∷ Step.Timeout 2 ∷ []))
    -- a header of either kind, at place 0 and later; one that is cut short
    ∷ start wide_fresh (0x01 ∷ 0x02 ∷ 0x03 ∷ []) (refuses 4 0)
    ∷ start wide_fresh (0x0B ∷ 0x02 ∷ 0x03 ∷ 0x00 ∷ 0x00 ∷ 0x00 ∷ []) (refuses 4 0)
    ∷ start wide_fresh (0x02 ∷ 0x01 ∷ 0x02 ∷ 0x03 ∷ []) (refuses 4 1)
    ∷ start wide_fresh (0x01 ∷ 0x02 ∷ []) (refuses 3 0)
    -- the tail comes before the records, its length before its fields
    ∷ start (replicate 319 0) (0xFF ∷ []) (refuses 10 0)
    ∷ start (replicate 321 0) (0xFF ∷ []) (refuses 10 0)
    ∷ start narrow_fresh [] (refuses 10 0)
    ∷ start (replicate 320 0) (0xFF ∷ []) (refuses 5 0)
    ∷ start (set wide_fresh 0 33) [] (refuses 5 0)
    ∷ start (set (set wide_fresh 254 240) 255 210) [] (accepts two [])
    ∷ start (set (set wide_fresh 254 241) 255 210) [] (refuses 5 0)
    -- records, from the left
    ∷ start wide_fresh (0x02 ∷ 0xFF ∷ []) (refuses 2 1)
    ∷ start wide_fresh (0x08 ∷ []) (refuses 3 0)
    ∷ start wide_fresh (0x08 ∷ 0x03 ∷ []) (refuses 5 0)
    ∷ []

pub record CasesHold : Type 0 where
  pub moves_hold : map (λ c. move_hands c.room c.tail) moves ≡ map (λ c. c.must) moves
  pub moved_holds : moved_bytes moved_from ≡ moved_to
  pub starts_hold : map (λ c. started (read_from c.tail c.bytes)) starts ≡ map (λ c. c.must) starts
