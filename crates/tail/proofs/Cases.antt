-- The single step on worked inputs, in document 01's numbers: what is out of range field by field, what is not due, and what is done. One theorem
-- covers the table. Assumes nothing.
use mathlib.Core.Path.{◌≡◌, refl}
use mathlib.Core.Bool.{Bool, true, ◌&&◌}
use mathlib.Core.List.{List, [], ◌∷◌}
use Prim.Native.Nat.{ℕ, suc, ◌-◌}
use lib.Dec.{eqb}
use lib.ListN.{replicate, set}
use Rattle.store.specs.Log.{places}
use Rattle.rules.specs.Step.{participant_to, participant_calls, coordinator_to, coordinator_calls}
use Rattle.number.specs.Table.{tabulate, every}
use Rattle.tail.specs.Types.{ParticipantFields, Tail}
use Rattle.tail.specs.Single.{single_step}

-- two participants, both of whom vote yes

abbrev fields : ℕ → ℕ → ℕ → ℕ → ParticipantFields
fields s h f l = record { state = s; heard = h; first = f; last = l }

-- participants 1, 2 and, beyond n, 3; the others are zeros
abbrev three : ParticipantFields → ParticipantFields → ParticipantFields → List ParticipantFields
three a b c = a ∷ b ∷ c ∷ replicate (places - 3) (fields 0 0 0 0)

abbrev zero : ParticipantFields
zero = fields 0 0 0 0

abbrev tail : ℕ → ℕ → ℕ → ℕ → List ℕ → List ParticipantFields → List ℕ → Tail
tail n v s h ms ps cs = record { n = n; votes = v; state = s; heard = h; messages = ms; participants = ps; calls = cs }

-- no messages, nobody but zeros, no calls; the fields of the coordinator are given
abbrev idle_tail : ℕ → ℕ → ℕ → ℕ → Tail
idle_tail n v s h = tail n v s h (replicate 5 0) (replicate places zero) (replicate (suc places) 0)

-- the coordinator is idle; the participants are given
abbrev sites_tail : ParticipantFields → ParticipantFields → ParticipantFields → Tail
sites_tail a b c = tail 2 3 0 0 (replicate 5 0) (three a b c) (replicate (suc places) 0)

-- a tail, a step by its kind and two numbers; the number and the byte that come back
record Case : Type 0 where
  state : Tail
  kind : ℕ
  a : ℕ
  b : ℕ
  number : ℕ
  byte : ℕ

abbrev case : Tail → ℕ → ℕ → ℕ → ℕ → ℕ → Case
case t k a b number byte = record { state = t; kind = k; a = a; b = b; number = number; byte = byte }

abbrev cases : List Case
cases =
    -- start, timeout and crash of a fresh release
    case (idle_tail 2 3 0 0) 2 0 0 0 1
    ∷ case (idle_tail 2 3 0 0) 8 1 0 0 1
    ∷ case (idle_tail 2 3 0 0) 9 0 0 0 1
    -- n, votes, coordinator state, and its heard mask: outside its states, beyond n, full
    ∷ case (idle_tail 0 0 0 0) 2 0 0 5 0
    ∷ case (idle_tail 33 3 0 0) 2 0 0 5 0
    ∷ case (idle_tail 2 4 0 0) 2 0 0 5 0
    ∷ case (idle_tail 2 3 7 0) 9 0 0 5 0
    ∷ case (idle_tail 2 3 0 1) 2 0 0 5 0
    ∷ case (idle_tail 2 3 1 4) 8 0 0 5 0
    ∷ case (idle_tail 2 3 1 3) 8 0 0 5 0
    ∷ case (idle_tail 2 3 1 2) 8 0 0 0 1
    -- request 2026-03: n up to 32, the range by n alone; the last bit of a mask of 32, and that bit beyond 31
    ∷ case (idle_tail 9 511 0 0) 2 0 0 0 1
    ∷ case (idle_tail 32 4294967295 0 0) 9 32 0 0 1
    ∷ case (idle_tail 32 4294967295 1 2147483648) 8 0 0 0 1
    ∷ case (idle_tail 32 4294967295 1 4294967295) 8 0 0 5 0
    ∷ case (idle_tail 31 2147483648 0 0) 2 0 0 5 0
    ∷ case (idle_tail 8 256 0 0) 2 0 0 5 0
    -- a message mask beyond n
    ∷ case (tail 2 3 0 0 (set (replicate 5 0) 4 4) (replicate places zero) (replicate (suc places) 0)) 2 0 0 5 0
    -- a participant's state; its heard mask outside 4, with the own bit, full, in 4 with one participant
    ∷ case (sites_tail (fields 10 0 0 0) zero zero) 2 0 0 5 0
    ∷ case (sites_tail (fields 3 2 1 1) zero zero) 2 0 0 5 0
    ∷ case (sites_tail (fields 4 1 1 1) zero zero) 2 0 0 5 0
    ∷ case (sites_tail (fields 4 2 1 1) zero zero) 2 0 0 5 0
    ∷ case (tail 1 1 0 0 (replicate 5 0) (three (fields 4 0 1 1) zero zero) (replicate (suc places) 0)) 2 0 0 5 0
    -- a record above 3, a forbidden pair, and each field beyond n
    ∷ case (sites_tail (fields 0 0 4 0) zero zero) 2 0 0 5 0
    ∷ case (sites_tail (fields 0 0 2 3) zero zero) 2 0 0 5 0
    ∷ case (sites_tail zero zero (fields 1 0 0 0)) 2 0 0 5 0
    ∷ case (sites_tail zero zero (fields 0 1 0 0)) 2 0 0 5 0
    ∷ case (sites_tail zero zero (fields 0 0 1 1)) 2 0 0 5 0
    -- a count of 65,535, also where the step is no call; one less; a count beyond n
    ∷ case (tail 2 3 0 0 (replicate 5 0) (replicate places zero) (set (replicate (suc places) 0) 2 65535)) 2 0 0 5 0
    ∷ case (tail 2 3 0 0 (replicate 5 0) (replicate places zero) (set (replicate (suc places) 0) 2 65534)) 2 0 0 0 1
    ∷ case (tail 2 3 0 0 (replicate 5 0) (replicate places zero) (set (replicate (suc places) 0) 3 1)) 2 0 0 5 0
    -- no step: a header of either kind, an unknown kind, a type 0 or 6, a number that the kind does not use
    ∷ case (idle_tail 2 3 0 0) 1 2 3 5 0
    ∷ case (idle_tail 2 3 0 0) 11 2 3 5 0
    ∷ case (idle_tail 2 3 0 0) 12 0 0 5 0
    ∷ case (idle_tail 2 3 0 0) 3 0 1 5 0
    ∷ case (idle_tail 2 3 0 0) 3 6 1 5 0
    ∷ case (idle_tail 2 3 0 0) 2 1 0 5 0
    ∷ case (idle_tail 2 3 0 0) 8 1 1 5 0
    -- a participant, a log and a party beyond n, and log 0
    ∷ case (idle_tail 2 3 0 0) 3 1 3 5 0
    ∷ case (idle_tail 2 3 0 0) 6 1 3 5 0
    ∷ case (idle_tail 2 3 0 0) 6 1 0 5 0
    ∷ case (idle_tail 2 3 0 0) 9 3 0 5 0
    -- not due: no message in flight, no call pending, a coordinator that has no timeout
    ∷ case (idle_tail 2 3 0 0) 3 1 1 7 0
    ∷ case (idle_tail 2 3 0 0) 6 1 1 7 0
    ∷ case (idle_tail 2 3 0 0) 8 0 0 7 0
    -- states that no run reaches go by the rules: a Log that is refused, and an answer that state 1 cannot get
    ∷ case (sites_tail (fields 5 0 0 0) zero zero) 6 1 1 7 0
    ∷ case (sites_tail (fields 1 0 1 3) zero zero) 6 1 1 7 0
    ∷ case (sites_tail (fields 3 0 0 0) zero zero) 8 1 0 0 1
    -- decisions: closing its own, empty log, and hearing the last yes
    ∷ case (sites_tail (fields 2 0 0 0) zero zero) 6 1 1 0 3
    ∷ case (sites_tail (fields 4 0 1 1) (fields 3 0 1 1) zero) 6 1 2 0 2
    -- another's empty log closed by a participant and by the coordinator, the answer heard and lost
    ∷ case (sites_tail (fields 4 0 1 1) zero zero) 6 1 2 0 7
    ∷ case (sites_tail (fields 4 0 1 1) zero zero) 7 1 2 0 5
    ∷ case (idle_tail 2 3 2 0) 6 0 1 0 7
    ∷ case (idle_tail 2 3 2 0) 7 0 1 0 5
    -- none closed: a log that has its abort, its own log, a yes vote
    ∷ case (sites_tail (fields 4 0 1 1) (fields 8 0 2 2) zero) 6 1 2 0 3
    ∷ case (sites_tail (fields 4 0 1 1) (fields 8 0 2 2) zero) 7 1 2 0 1
    ∷ case (sites_tail (fields 2 0 0 0) zero zero) 7 1 1 0 1
    ∷ case (sites_tail (fields 1 0 0 0) zero zero) 6 1 1 0 1
    ∷ []

abbrev holds : Case → Bool
holds c = eqb (single_step c.state c.kind c.a c.b).number c.number && eqb (single_step c.state c.kind c.a c.b).byte c.byte

abbrev all_hold : List Case → Bool
all_hold [] = true
all_hold (c ∷ cs) = holds c && all_hold cs

all_hold_lem : all_hold cases ≡ true
unfolding tabulate every participant_to participant_calls coordinator_to coordinator_calls
all_hold_lem = refl
