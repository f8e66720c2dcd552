-- The numbers of refusals and what is handed over with them, document 01's table "What each refusal hands over". Every entry cites them.
-- Assumes nothing.
use Rattle.std.specs.Prelude.{ℕ, Result, Ok, Err}
use Rattle.number.specs.Types.{Refusal, Refused, Numbered}

abbrev pub refusal_number : Refusal → ℕ
-- schedule empty or over 32,768 bytes
refusal_number Refusal.EmptyOrTooLong = 1
-- unknown kind
refusal_number Refusal.UnknownKind = 2
-- body cut short
refusal_number Refusal.BodyCutShort = 3
-- header missing first or found later
refusal_number Refusal.HeaderMisplaced = 4
-- a number out of range, a vote beyond n, a forbidden pair
refusal_number Refusal.OutOfRange = 5
-- lent buffer too short
refusal_number Refusal.TooShort = 6
-- single step not due
refusal_number Refusal.NotDue = 7
-- LogOnce without yes or abort; Log without abort or commit
refusal_number Refusal.WrongRecord = 8
-- Log refused by its rule
refusal_number Refusal.RefusedByRule = 9
-- request 2026-04: a tail of another length
refusal_number Refusal.WrongLength = 10

-- nothing refused
abbrev pub accepted : ℕ
accepted = 0

-- what an entry hands over: the refusal's number or 0, and a place or a length
pub record Handed : Type 0 where
  pub number : ℕ
  pub value : ℕ

abbrev pub hands : ℕ → ℕ → Handed
hands k v = record { number = k; value = v }

abbrev pub refused : Refusal → ℕ → Refused
refused k v = record { refusal = k; value = v }

abbrev pub refused_hands : Refused → Handed
refused_hands r = hands (refusal_number r.refusal) r.value

-- the same of an entry that answers a place or a length
abbrev pub result_hands : Result ℕ Refused → Handed
result_hands (Ok v) = hands accepted v
result_hands (Err r) = refused_hands r

-- a refusal by its number, and an answer with it

abbrev pub by_number : Refused → Numbered
by_number r = record { number = refusal_number r.refusal; value = r.value }

abbrev pub with_number : {A : Type 0} → Result A Refused → Result A Numbered
with_number (Ok x) = Ok x
with_number (Err r) = Err (by_number r)

-- what an answer hands over whose refusal goes by any number
abbrev pub numbered_hands : Result ℕ Numbered → Handed
numbered_hands (Ok v) = hands accepted v
numbered_hands (Err r) = hands r.number r.value
