-- The kinds of records: the number of each, which is the first byte of a record, and the two numbers of its body. Assumes nothing.
use Rattle.std.specs.Prelude.{Bool, true, false, cond, [], ◌∷◌, ℕ, ◌+◌, Result, Ok, Err}
use Rattle.number.specs.Numbering.{numbered, is_number}
use Rattle.kind.specs.Types.{Kind, Refusal}

-- document 01's table of kinds, 01 to 0A; request 2026-03: header 0B
abbrev pub kind_number : Kind → ℕ
kind_number Kind.Header = 1
kind_number Kind.Start = 2
kind_number Kind.Deliver = 3
kind_number Kind.Copy = 4
kind_number Kind.Lose = 5
kind_number Kind.Call = 6
kind_number Kind.CallLost = 7
kind_number Kind.Timeout = 8
kind_number Kind.Crash = 9
kind_number Kind.Restart = 10
kind_number Kind.WideHeader = 11

abbrev pub kind_of : ℕ → Kind
kind_of k =
    numbered kind_number Kind.Header
    (Kind.Start ∷ Kind.Deliver ∷ Kind.Copy ∷ Kind.Lose ∷ Kind.Call ∷ Kind.CallLost ∷ Kind.Timeout ∷ Kind.Crash ∷ Kind.Restart ∷ Kind.WideHeader ∷ []) k

abbrev pub is_kind : ℕ → Bool
is_kind k = is_number kind_number kind_of k

abbrev pub kind_with : ℕ → Result Kind Refusal
kind_with k = cond (is_kind k) (Ok (kind_of k)) (Err Refusal.UnknownKind)

-- A body is a number and a second one: n and vote mask; nothing; type and participant; party and log; party. How many bytes each of them has:
-- a number has one, the vote mask of header 0B four

abbrev pub first_width : Kind → ℕ
first_width Kind.Header = 1
first_width Kind.Start = 0
first_width Kind.Deliver = 1
first_width Kind.Copy = 1
first_width Kind.Lose = 1
first_width Kind.Call = 1
first_width Kind.CallLost = 1
first_width Kind.Timeout = 1
first_width Kind.Crash = 1
first_width Kind.Restart = 1
first_width Kind.WideHeader = 1

abbrev pub second_width : Kind → ℕ
second_width Kind.Header = 1
second_width Kind.Start = 0
second_width Kind.Deliver = 1
second_width Kind.Copy = 1
second_width Kind.Lose = 1
second_width Kind.Call = 1
second_width Kind.CallLost = 1
second_width Kind.Timeout = 0
second_width Kind.Crash = 0
second_width Kind.Restart = 0
second_width Kind.WideHeader = 4

abbrev pub body_length : Kind → ℕ
body_length k = first_width k + second_width k

-- all other kinds are steps
abbrev pub is_header : Kind → Bool
is_header Kind.Header = true
is_header Kind.Start = false
is_header Kind.Deliver = false
is_header Kind.Copy = false
is_header Kind.Lose = false
is_header Kind.Call = false
is_header Kind.CallLost = false
is_header Kind.Timeout = false
is_header Kind.Crash = false
is_header Kind.Restart = false
is_header Kind.WideHeader = true

-- how many participants a header of that kind has room for; a step's kind has none
abbrev pub room : Kind → ℕ
room Kind.Header = 8
room Kind.Start = 0
room Kind.Deliver = 0
room Kind.Copy = 0
room Kind.Lose = 0
room Kind.Call = 0
room Kind.CallLost = 0
room Kind.Timeout = 0
room Kind.Crash = 0
room Kind.Restart = 0
room Kind.WideHeader = 32
