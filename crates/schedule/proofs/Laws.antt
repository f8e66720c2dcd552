-- What tests of ranges tell: the numbers of a record in range fit the bytes that they have. Assumes nothing.
use mathlib.Core.Path.{◌≡◌, refl}
use mathlib.Core.Bool.{Bool, true, false, cond}
use Prim.Native.Nat.{ℕ, ◌*◌, ◌^◌, ◌≤◌, ◌<◌}
use native.Mathlib.Omega.{arith}
use lib.Pow.{pow_mono, pow_pos}
use borrow.Author.Tests.{leb-true, le-leb}
use Rattle.std.specs.Prelude.{None}
use Rattle.number.proofs.Laws.{and_left, and_right, and_true}
use Rattle.number.proofs.LowBytes.{low_bits}
use Rattle.mask.specs.Mask.{within, full}
use Rattle.store.specs.Log.{places}
use Rattle.kind.specs.Kind.{kind_number, first_width, second_width, is_header, room}
use Rattle.kind.specs.Step.{number_in_range, numbers_in_range}
use Rattle.kind.proofs.Numbers.{between, numbers_fit, header_widths, room_most, room_bits, no_room}
use Rattle.schedule.specs.Types.{Kind, Header, Record}
use Rattle.schedule.specs.Record.{header_in_range, header_record, record_header, record_in_range}
use Rattle.schedule.specs.RoundTrip.{may_follow}

pub header_room : (h : Header) → header_in_range h ≡ true → (1 ≤ h.n) × (h.n ≤ room h.kind)
header_room h q = between 1 h.n (room h.kind) (and_left (number_in_range 1 h.n (room h.kind)) _ q)

pub header_size : (h : Header) → header_in_range h ≡ true → (1 ≤ h.n) × (h.n ≤ places)
header_size h q = let x = header_room h q in (x.0, omega (arith, room_most h.kind))

-- a header in range is so under a kind with room for as many
pub header_under : (k : Kind) (h : Header) → room h.kind ≤ room k → header_in_range h ≡ true → header_in_range (record { kind = k; n = h.n; votes = h.votes }) ≡ true
header_under k h more q =
    let x = header_room h q in
    and_true _ _ (and_true _ _ (le-leb 1 h.n x.0) (le-leb h.n (room k) (omega (arith, x.1)))) (and_right (number_in_range 1 h.n (room h.kind)) _ q)

-- a header in range has a header's kind
pub header_is : (h : Header) → header_in_range h ≡ true → is_header h.kind ≡ true
header_is h q = go (is_header h.kind) refl
  where
    go : (b : Bool) → is_header h.kind ≡ b → b ≡ true
    go true e = refl
    go false e = let x = header_room h q in absurd (omega (arith, no_room h.kind e))

-- so it may come first
pub header_record_lem : (n : ℕ) (h : Header) → header_in_range h ≡ true → record_in_range n (header_record h) ≡ true
header_record_lem n h q = rw (header_is h q) q

pub header_follows : (h : Header) → header_in_range h ≡ true → may_follow None (header_record h) ≡ true
header_follows h q = and_true _ _ (header_is h q) (header_record_lem 0 h q)

pub header_votes : (h : Header) → header_in_range h ≡ true → within h.n h.votes ≡ true
header_votes h q = and_right (number_in_range 1 h.n (room h.kind)) _ q

header_fits : (h : Header) → header_in_range h ≡ true → (h.n < 256 ^ first_width h.kind) × (h.votes < 256 ^ second_width h.kind)
header_fits h q =
    let x = header_room h q in
    let y = leb-true h.votes (full h.n) (header_votes h q) in
    let z = pow_mono {i = h.n} {j = 8 * second_width h.kind} (omega (arith, room_bits h.kind)) in
    (rw (header_widths h.kind (header_is h q)).0 (omega (arith, room_most h.kind)), omega (arith, low_bits (second_width h.kind), pow_pos h.n))

pub record_fits : (n : ℕ) (r : Record) → n ≤ places → record_in_range n r ≡ true → (r.first < 256 ^ first_width r.kind) × (r.second < 256 ^ second_width r.kind)
record_fits n r small q = go (is_header r.kind) refl q
  where
    go : (b : Bool) → is_header r.kind ≡ b → cond b (header_in_range (record_header r)) (numbers_in_range n (kind_number r.kind) r.first r.second) ≡ true
        → (r.first < 256 ^ first_width r.kind) × (r.second < 256 ^ second_width r.kind)
    go true e q = header_fits (record_header r) q
    go false e q = numbers_fit n r.kind r.first r.second (omega arith) e q
