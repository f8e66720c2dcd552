-- A step with its numbers: its kind, and two numbers of its body, 0 where the body has none. Assumes nothing.
use Rattle.std.specs.Prelude.{◌≡◌, Bool, true, false, cond, ◌&&◌, List, [], ◌∷◌, ℕ, eqb, leb}
use Rattle.number.specs.Numbering.{is_number, are_numbers3}
use Rattle.message.specs.Message.{type_number, message_of}
use Rattle.kind.specs.Types.{Kind, Step}
use Rattle.kind.specs.Kind.{kind_number, kind_of, is_header}

abbrev pub step_kind : Step → Kind
step_kind Step.Start = Kind.Start
step_kind (Step.Deliver x y) = Kind.Deliver
step_kind (Step.Copy x y) = Kind.Copy
step_kind (Step.Lose x y) = Kind.Lose
step_kind (Step.Call x y) = Kind.Call
step_kind (Step.CallLost x y) = Kind.CallLost
step_kind (Step.Timeout x) = Kind.Timeout
step_kind (Step.Crash x) = Kind.Crash
step_kind (Step.Restart x) = Kind.Restart

-- body: type, participant; party, log; party
abbrev pub first_number : Step → ℕ
first_number Step.Start = 0
first_number (Step.Deliver m q) = type_number m
first_number (Step.Copy m q) = type_number m
first_number (Step.Lose m q) = type_number m
first_number (Step.Call p q) = p
first_number (Step.CallLost p q) = p
first_number (Step.Timeout p) = p
first_number (Step.Crash p) = p
first_number (Step.Restart p) = p

abbrev pub second_number : Step → ℕ
second_number Step.Start = 0
second_number (Step.Deliver m q) = q
second_number (Step.Copy m q) = q
second_number (Step.Lose m q) = q
second_number (Step.Call p q) = q
second_number (Step.CallLost p q) = q
second_number (Step.Timeout p) = 0
second_number (Step.Crash p) = 0
second_number (Step.Restart p) = 0

-- back from the numbers. A header is no step: the start given for it does not have its number
abbrev pub of_kind : Kind → ℕ → ℕ → Step
of_kind Kind.Header a b = Step.Start
of_kind Kind.Start a b = Step.Start
of_kind Kind.Deliver a b = Step.Deliver (message_of a) b
of_kind Kind.Copy a b = Step.Copy (message_of a) b
of_kind Kind.Lose a b = Step.Lose (message_of a) b
of_kind Kind.Call a b = Step.Call a b
of_kind Kind.CallLost a b = Step.CallLost a b
of_kind Kind.Timeout a b = Step.Timeout a
of_kind Kind.Crash a b = Step.Crash a
of_kind Kind.Restart a b = Step.Restart a
of_kind Kind.WideHeader a b = Step.Start

abbrev pub step_of : ℕ → ℕ → ℕ → Step
step_of k a b = of_kind (kind_of k) a b

abbrev pub step_number : Step → ℕ
step_number s = kind_number (step_kind s)

abbrev pub is_step : ℕ → ℕ → ℕ → Bool
is_step k a b = are_numbers3 step_number first_number second_number step_of k a b

-- Reading, participants and logs go from 1 to n, parties from 0 to n
abbrev pub number_in_range : ℕ → ℕ → ℕ → Bool
number_in_range low k high = leb low k && leb k high

-- what the two numbers of a body are: a message's type or a party; a participant or a log

abbrev pub names_message : Kind → Bool
names_message Kind.Header = false
names_message Kind.Start = false
names_message Kind.Deliver = true
names_message Kind.Copy = true
names_message Kind.Lose = true
names_message Kind.Call = false
names_message Kind.CallLost = false
names_message Kind.Timeout = false
names_message Kind.Crash = false
names_message Kind.Restart = false
names_message Kind.WideHeader = false

abbrev pub names_party : Kind → Bool
names_party Kind.Header = false
names_party Kind.Start = false
names_party Kind.Deliver = false
names_party Kind.Copy = false
names_party Kind.Lose = false
names_party Kind.Call = true
names_party Kind.CallLost = true
names_party Kind.Timeout = true
names_party Kind.Crash = true
names_party Kind.Restart = true
names_party Kind.WideHeader = false

abbrev pub names_place : Kind → Bool
names_place Kind.Header = false
names_place Kind.Start = false
names_place Kind.Deliver = true
names_place Kind.Copy = true
names_place Kind.Lose = true
names_place Kind.Call = true
names_place Kind.CallLost = true
names_place Kind.Timeout = false
names_place Kind.Crash = false
names_place Kind.Restart = false
names_place Kind.WideHeader = false

-- and their ranges under n. Numbers that are not used are 0; a header is no step

abbrev pub first_in_range : ℕ → Kind → ℕ → Bool
first_in_range n k a = cond (names_message k) (is_number type_number message_of a) (cond (names_party k) (leb a n) (cond (is_header k) false (eqb 0 a)))

abbrev pub second_in_range : ℕ → Kind → ℕ → Bool
second_in_range n k b = cond (names_place k) (number_in_range 1 b n) (eqb 0 b)

-- the least and the greatest number of each range: types go from 1 to 5, participants and logs from 1 to n, parties from 0 to n

abbrev pub least_first : Kind → ℕ
least_first k = cond (names_message k) 1 0

abbrev pub greatest_first : ℕ → Kind → ℕ
greatest_first n k = cond (names_message k) 5 (cond (names_party k) n 0)

abbrev pub least_second : Kind → ℕ
least_second k = cond (names_place k) 1 0

abbrev pub greatest_second : ℕ → Kind → ℕ
greatest_second n k = cond (names_place k) n 0

-- whether a step has numbers in range

abbrev pub in_range : ℕ → Step → Bool
in_range n Step.Start = true
in_range n (Step.Deliver m p) = number_in_range 1 p n
in_range n (Step.Copy m p) = number_in_range 1 p n
in_range n (Step.Lose m p) = number_in_range 1 p n
in_range n (Step.Call p q) = leb p n && number_in_range 1 q n
in_range n (Step.CallLost p q) = leb p n && number_in_range 1 q n
in_range n (Step.Timeout p) = leb p n
in_range n (Step.Crash p) = leb p n
in_range n (Step.Restart p) = leb p n

abbrev pub numbers_in_range : ℕ → ℕ → ℕ → ℕ → Bool
numbers_in_range n k a b = is_step k a b && in_range n (step_of k a b)

-- the lists of steps that a reader yields under a header with n
abbrev pub AllInRange : ℕ → List Step → Type 0
AllInRange n [] = Unit {0}
AllInRange n (s ∷ ss) = (in_range n s ≡ true) × AllInRange n ss
