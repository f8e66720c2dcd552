-- The numbers of kinds and steps and the ways back belong together, and what numbers in range are. Assumes nothing.
use mathlib.Core.Path.{◌≡◌, refl, sym, ap, ◌∙◌}
use mathlib.Core.Bool.{true, false, true≢false, ◌&&◌}
use Prim.Native.Nat.{ℕ, ◌*◌, ◌^◌, ◌≤◌, ◌<◌}
use native.Mathlib.Omega.{arith}
use lib.Dec.{leb, lit≤}
use borrow.Author.Tests.{leb-true, le-leb}
use Rattle.number.specs.Numbering.{Inverse, Inverse3}
use Rattle.number.proofs.Laws.{and_left, and_right, and_true, inverse, inverse3, are_numbers3_lem}
use Rattle.message.specs.Message.{type_number}
use Rattle.message.proofs.Numbers.{message_numbers, type_most}
use Rattle.kind.specs.Types.{Message, Kind, Step}
use Rattle.kind.specs.Kind.{kind_number, kind_of, first_width, second_width, body_length, is_header, room}
use Rattle.kind.specs.Step.{step_kind, step_number, first_number, second_number, of_kind, step_of, is_step, number_in_range, in_range, numbers_in_range}

kind_back : (k : Kind) → kind_of (kind_number k) ≡ k
kind_back Kind.Header = refl
kind_back Kind.Start = refl
kind_back Kind.Deliver = refl
kind_back Kind.Copy = refl
kind_back Kind.Lose = refl
kind_back Kind.Call = refl
kind_back Kind.CallLost = refl
kind_back Kind.Timeout = refl
kind_back Kind.Crash = refl
kind_back Kind.Restart = refl
kind_back Kind.WideHeader = refl

pub kind_numbers : Inverse kind_number kind_of
kind_numbers = inverse kind_number kind_of kind_back

step_back : (s : Step) → step_of (step_number s) (first_number s) (second_number s) ≡ s
step_back Step.Start = refl
step_back (Step.Deliver m q) = rw (message_numbers.decoded m) refl
step_back (Step.Copy m q) = rw (message_numbers.decoded m) refl
step_back (Step.Lose m q) = rw (message_numbers.decoded m) refl
step_back (Step.Call p q) = refl
step_back (Step.CallLost p q) = refl
step_back (Step.Timeout p) = refl
step_back (Step.Crash p) = refl
step_back (Step.Restart p) = refl

pub step_numbers : Inverse3 step_number first_number second_number step_of
step_numbers = inverse3 step_number first_number second_number step_of step_back

-- the same by kind, without its number

pub kind_decoded : (s : Step) → of_kind (step_kind s) (first_number s) (second_number s) ≡ s
kind_decoded s = rw (kind_numbers.decoded (step_kind s)) at (step_back s)

pub kind_encoded : (k : Kind) (a b : ℕ) → is_step (kind_number k) a b ≡ true → (first_number (of_kind k a b) ≡ a) × (second_number (of_kind k a b) ≡ b)
kind_encoded k a b q =
    let e = step_numbers.encoded (kind_number k) a b q in
    (rw (kind_numbers.decoded k) at e.1, rw (kind_numbers.decoded k) at e.2)

-- a header has n, a byte, and a mask
pub header_widths : (k : Kind) → is_header k ≡ true → (first_width k ≡ 1) × (1 ≤ second_width k)
header_widths Kind.Header q = (refl, lit≤ tt)
header_widths Kind.Start q = absurd (true≢false (sym q))
header_widths Kind.Deliver q = absurd (true≢false (sym q))
header_widths Kind.Copy q = absurd (true≢false (sym q))
header_widths Kind.Lose q = absurd (true≢false (sym q))
header_widths Kind.Call q = absurd (true≢false (sym q))
header_widths Kind.CallLost q = absurd (true≢false (sym q))
header_widths Kind.Timeout q = absurd (true≢false (sym q))
header_widths Kind.Crash q = absurd (true≢false (sym q))
header_widths Kind.Restart q = absurd (true≢false (sym q))
header_widths Kind.WideHeader q = (refl, lit≤ tt)

pub step_no_header : (s : Step) → is_header (step_kind s) ≡ false
step_no_header Step.Start = refl
step_no_header (Step.Deliver m p) = refl
step_no_header (Step.Copy m p) = refl
step_no_header (Step.Lose m p) = refl
step_no_header (Step.Call p j) = refl
step_no_header (Step.CallLost p j) = refl
step_no_header (Step.Timeout p) = refl
step_no_header (Step.Crash p) = refl
step_no_header (Step.Restart p) = refl

pub kind_of_step : (k : Kind) (a b : ℕ) → is_header k ≡ false → step_kind (of_kind k a b) ≡ k
kind_of_step Kind.Header a b q = cc
kind_of_step Kind.Start a b q = refl
kind_of_step Kind.Deliver a b q = refl
kind_of_step Kind.Copy a b q = refl
kind_of_step Kind.Lose a b q = refl
kind_of_step Kind.Call a b q = refl
kind_of_step Kind.CallLost a b q = refl
kind_of_step Kind.Timeout a b q = refl
kind_of_step Kind.Crash a b q = refl
kind_of_step Kind.Restart a b q = refl
kind_of_step Kind.WideHeader a b q = cc

-- the numbers of a step in range pass the test

pub step_tested : (n : ℕ) (s : Step) → in_range n s ≡ true → numbers_in_range n (step_number s) (first_number s) (second_number s) ≡ true
step_tested n s q =
    and_true _ _ (are_numbers3_lem step_number first_number second_number step_of step_numbers s) (ap (in_range n) (step_numbers.decoded s) ∙ q)

pub between : (a k b : ℕ) → number_in_range a k b ≡ true → (a ≤ k) × (k ≤ b)
between a k b q = (leb-true a k (and_left (leb a k) (leb k b) q), leb-true k b (and_right (leb a k) (leb k b) q))

-- a kind's number is a byte, and its body has a number of at most one byte and one of at most four

pub kind_most : (k : Kind) → kind_number k ≤ 11
kind_most Kind.Header = lit≤ tt
kind_most Kind.Start = lit≤ tt
kind_most Kind.Deliver = lit≤ tt
kind_most Kind.Copy = lit≤ tt
kind_most Kind.Lose = lit≤ tt
kind_most Kind.Call = lit≤ tt
kind_most Kind.CallLost = lit≤ tt
kind_most Kind.Timeout = lit≤ tt
kind_most Kind.Crash = lit≤ tt
kind_most Kind.Restart = lit≤ tt
kind_most Kind.WideHeader = lit≤ tt

pub first_most : (k : Kind) → first_width k ≤ 1
first_most Kind.Header = lit≤ tt
first_most Kind.Start = lit≤ tt
first_most Kind.Deliver = lit≤ tt
first_most Kind.Copy = lit≤ tt
first_most Kind.Lose = lit≤ tt
first_most Kind.Call = lit≤ tt
first_most Kind.CallLost = lit≤ tt
first_most Kind.Timeout = lit≤ tt
first_most Kind.Crash = lit≤ tt
first_most Kind.Restart = lit≤ tt
first_most Kind.WideHeader = lit≤ tt

pub second_most : (k : Kind) → second_width k ≤ 4
second_most Kind.Header = lit≤ tt
second_most Kind.Start = lit≤ tt
second_most Kind.Deliver = lit≤ tt
second_most Kind.Copy = lit≤ tt
second_most Kind.Lose = lit≤ tt
second_most Kind.Call = lit≤ tt
second_most Kind.CallLost = lit≤ tt
second_most Kind.Timeout = lit≤ tt
second_most Kind.Crash = lit≤ tt
second_most Kind.Restart = lit≤ tt
second_most Kind.WideHeader = lit≤ tt

pub body_most : (k : Kind) → body_length k ≤ 5
body_most k = omega (arith, first_most k, second_most k)

-- the numbers of a step in range, where n is a byte, fit the bytes of its body

message_fits : (n : ℕ) (m : Message) (p : ℕ) → n < 256 → number_in_range 1 p n ≡ true → (type_number m < 256 ^ 1) × (p < 256 ^ 1)
message_fits n m p h q = (omega (arith, type_most m), omega (arith, (between 1 p n q).1))

call_fits : (n p j : ℕ) → n < 256 → leb p n && number_in_range 1 j n ≡ true → (p < 256 ^ 1) × (j < 256 ^ 1)
call_fits n p j h q = (omega (arith, leb-true p n (and_left (leb p n) _ q)), omega (arith, (between 1 j n (and_right (leb p n) _ q)).1))

party_fits : (n p : ℕ) → n < 256 → leb p n ≡ true → (p < 256 ^ 1) × (0 < 256 ^ 0)
party_fits n p h q = (omega (arith, leb-true p n q), omega arith)

step_fits : (n : ℕ) (s : Step) → n < 256 → in_range n s ≡ true → (first_number s < 256 ^ first_width (step_kind s)) × (second_number s < 256 ^ second_width (step_kind s))
step_fits n Step.Start h q = (omega arith, omega arith)
step_fits n (Step.Deliver m p) h q = message_fits n m p h q
step_fits n (Step.Copy m p) h q = message_fits n m p h q
step_fits n (Step.Lose m p) h q = message_fits n m p h q
step_fits n (Step.Call p j) h q = call_fits n p j h q
step_fits n (Step.CallLost p j) h q = call_fits n p j h q
step_fits n (Step.Timeout p) h q = party_fits n p h q
step_fits n (Step.Crash p) h q = party_fits n p h q
step_fits n (Step.Restart p) h q = party_fits n p h q

pub numbers_fit : (n : ℕ) (k : Kind) (a b : ℕ) → n < 256 → is_header k ≡ false → numbers_in_range n (kind_number k) a b ≡ true
    → (a < 256 ^ first_width k) × (b < 256 ^ second_width k)
numbers_fit n k a b h z q =
    let e = kind_encoded k a b (and_left (is_step (kind_number k) a b) _ q) in
    let ranged : in_range n (of_kind k a b) ≡ true = rw (kind_numbers.decoded k) at (and_right (is_step (kind_number k) a b) _ q) in
    rw (e.0, e.1, kind_of_step k a b z) at (step_fits n (of_kind k a b) h ranged)

-- a step in range for n is in range for more

more_numbers : (low k n m : ℕ) → n ≤ m → number_in_range low k n ≡ true → number_in_range low k m ≡ true
more_numbers low k n m h q = let x = between low k n q in and_true _ _ (le-leb low k x.0) (le-leb k m (omega arith))

more_parties : (p n m : ℕ) → n ≤ m → leb p n ≡ true → leb p m ≡ true
more_parties p n m h q = le-leb p m (omega (arith, leb-true p n q))

more_calls : (p j n m : ℕ) → n ≤ m → leb p n && number_in_range 1 j n ≡ true → leb p m && number_in_range 1 j m ≡ true
more_calls p j n m h q =
    and_true _ _ (more_parties p n m h (and_left (leb p n) _ q)) (more_numbers 1 j n m h (and_right (leb p n) _ q))

pub more_steps : (n m : ℕ) → n ≤ m → (s : Step) → in_range n s ≡ true → in_range m s ≡ true
more_steps n m h Step.Start q = refl
more_steps n m h (Step.Deliver x p) q = more_numbers 1 p n m h q
more_steps n m h (Step.Copy x p) q = more_numbers 1 p n m h q
more_steps n m h (Step.Lose x p) q = more_numbers 1 p n m h q
more_steps n m h (Step.Call p j) q = more_calls p j n m h q
more_steps n m h (Step.CallLost p j) q = more_calls p j n m h q
more_steps n m h (Step.Timeout p) q = more_parties p n m h q
more_steps n m h (Step.Crash p) q = more_parties p n m h q
more_steps n m h (Step.Restart p) q = more_parties p n m h q

pub more_tested : (n m : ℕ) → n ≤ m → (k a b : ℕ) → numbers_in_range n k a b ≡ true → numbers_in_range m k a b ≡ true
more_tested n m h k a b q = and_true _ _ (and_left (is_step k a b) _ q) (more_steps n m h (step_of k a b) (and_right (is_step k a b) _ q))

-- no kind has more room than header 0B, a kind with room is a header's, and its mask has a bit for each of them

pub room_most : (k : Kind) → room k ≤ room Kind.WideHeader
room_most Kind.Header = lit≤ tt
room_most Kind.Start = lit≤ tt
room_most Kind.Deliver = lit≤ tt
room_most Kind.Copy = lit≤ tt
room_most Kind.Lose = lit≤ tt
room_most Kind.Call = lit≤ tt
room_most Kind.CallLost = lit≤ tt
room_most Kind.Timeout = lit≤ tt
room_most Kind.Crash = lit≤ tt
room_most Kind.Restart = lit≤ tt
room_most Kind.WideHeader = lit≤ tt

pub room_bits : (k : Kind) → room k ≤ 8 * second_width k
room_bits Kind.Header = lit≤ tt
room_bits Kind.Start = lit≤ tt
room_bits Kind.Deliver = lit≤ tt
room_bits Kind.Copy = lit≤ tt
room_bits Kind.Lose = lit≤ tt
room_bits Kind.Call = lit≤ tt
room_bits Kind.CallLost = lit≤ tt
room_bits Kind.Timeout = lit≤ tt
room_bits Kind.Crash = lit≤ tt
room_bits Kind.Restart = lit≤ tt
room_bits Kind.WideHeader = lit≤ tt

pub no_room : (k : Kind) → is_header k ≡ false → room k ≡ 0
no_room Kind.Header q = absurd (true≢false q)
no_room Kind.Start q = refl
no_room Kind.Deliver q = refl
no_room Kind.Copy q = refl
no_room Kind.Lose q = refl
no_room Kind.Call q = refl
no_room Kind.CallLost q = refl
no_room Kind.Timeout q = refl
no_room Kind.Crash q = refl
no_room Kind.Restart q = refl
no_room Kind.WideHeader q = absurd (true≢false q)
