-- A tail in range fits the form of its header: the statement RangeFits. Assumes nothing.
use mathlib.Core.Path.{◌≡◌, refl}
use mathlib.Core.Bool.{Bool, true, false, cond, ◌&&◌}
use Prim.Native.Nat.{ℕ, suc, ◌*◌, ◌^◌, ◌≤◌, ◌<◌}
use native.Mathlib.Omega.{arith}
use native.Mathlib.Decide.{dec_lt}
use lib.Dec.{ltb}
use lib.ListN.{get_or, get_or-eq_default}
use lib.Pow.{pow_mono}
use borrow.Author.Tests.{eqb-true, le-ltb, lt-leb}
use Rattle.number.proofs.Laws.{and_left, and_right}
use Rattle.number.proofs.LowBytes.{low_bits}
use Rattle.number.proofs.Table.{every_at, length_tabulate}
use Rattle.mask.specs.Mask.{full, within}
use Rattle.mask.proofs.Laws.{within_lt, none_within}
use Rattle.store.specs.Log.{places, record_of, is_record}
use Rattle.store.proofs.Numbers.{record_numbers, record_most}
use Rattle.participant.specs.Participant
use Rattle.participant.proofs.Numbers.{participant_numbers, state_most, heard_within}
use Rattle.coordinator.specs.Coordinator
use Rattle.coordinator.proofs.Numbers.{coordinator_numbers, state_most as coordinator-state-most, heard_within as coordinator-heard-within}
use Rattle.kind.specs.Kind.{room}
use Rattle.kind.proofs.Numbers.{room_most}
use Rattle.schedule.specs.Record.{header_in_range}
use Rattle.schedule.proofs.Laws.{header_room, header_votes}
use Rattle.rules.specs.State.{types}
use Rattle.state.specs.Fields.{HasPlaces}
use Rattle.tail.specs.Tail.{fields_of, tail_of, fields_at, header_of, messages_in_range, records_in_range, fields_zero, participant_in_range, count_in_range, zeros}
use Rattle.tail.proofs.TailRange.{parties_in_range_lem, calls_in_range_lem, zero_fields, calls_below}
use Rattle.form.specs.Types.{Kind, ParticipantFields, Release}
use Rattle.form.specs.Form.{form_of, wide, FormFits, participant_length, tail_length}
use Rattle.form.specs.Kept.{HasFields, FieldsFit, RangeFits, WideTail}
use Rattle.form.proofs.Lengths.{product}

pub form_fits : (k : Kind) → FormFits (form_of k)
form_fits k = (omega (arith, room_most k), omega (arith, room_most k))

-- no tail is longer than that under header 0B
pub form_most : (k : Kind) → tail_length (form_of k) ≤ tail_length wide
form_most k = omega (arith, room_most k, product (room k) (room Kind.WideHeader) (participant_length (form_of k).width) (room_most k))

pub wide_tail : WideTail
wide_tail = (refl, refl, form_most)

-- a mask of as many as the kind has room for has room in the form's bytes
mask_fits : (k : Kind) (n m : ℕ) → n ≤ room k → within n m ≡ true → m < 256 ^ (form_of k).width
mask_fits k n m h q =
    let bits : n ≤ 8 * (form_of k).width = omega arith in
    omega (arith, within_lt n m q, pow_mono {i = n} {j = 8 * (form_of k).width} bits, low_bits (form_of k).width)

-- the tail of a release with a place for each has its fields
pub has_fields : (r : Release) → HasPlaces r → HasFields (tail_of r)
has_fields r h = record { messages = h.messages; participants = length_tabulate places (fields_of r); calls = h.calls }

-- a number of a record is small
record_small : (x : ℕ) → is_record x ≡ true → x < 256
record_small x q = omega (arith, record_most (record_of x), record_numbers.encoded x q)

module _ (w n i : ℕ) (f : ParticipantFields) (fits : (m : ℕ) → within n m ≡ true → m < 256 ^ w) where
  fields_fit : (b : Bool) → cond b (Participant.numbers_in_range (full n) i f.state f.heard && records_in_range f) (fields_zero f) ≡ true → FieldsFit w f
  fields_fit true q =
      let p = and_left (Participant.numbers_in_range (full n) i f.state f.heard) _ q in
      let e = participant_numbers.encoded f.state f.heard (and_left _ _ p) in
      let h = heard_within n i (Participant.of_numbers f.state f.heard) (and_right (Participant.is_participant f.state f.heard) _ p) in
      let r = and_right (Participant.numbers_in_range (full n) i f.state f.heard) _ q in
      record {
        state = omega (arith, state_most (Participant.of_numbers f.state f.heard), e.0);
        heard = fits f.heard (rw e.1 at h);
        first = record_small f.first (and_left (is_record f.first) _ r);
        last = record_small f.last (and_left (is_record f.last) _ (and_right (is_record f.first) _ r));
      }
  fields_fit false q = rw (zero_fields f q) (record { state = omega arith; heard = fits 0 (none_within n); first = omega arith; last = omega arith })

pub range_fits : RangeFits
range_fits k limit t some most has q =
    record {
      has_fields = has;
      within = (form_fits k).0;
      n = omega (arith, size.1, room_most k);
      votes = fits t.votes (header_votes (header_of k t) header);
      state = omega (arith, coordinator-state-most (Coordinator.of_numbers t.state t.heard), own.0);
      heard = fits t.heard (rw own.1 at (coordinator-heard-within t.n (Coordinator.of_numbers t.state t.heard) (and_right (Coordinator.is_coordinator t.state t.heard) _ coordinator)));
      messages = λ m l. fits (get_or t.messages m 0) (every_at (λ j. within t.n (get_or t.messages j 0)) types m l (and_left (messages_in_range t) _ (and_right (header_in_range (header_of k t)) _ q)));
      participants = λ i l. fields_fit (form_of k).width t.n i (fields_at t i) fits (ltb i t.n) (tested i (omega (arith, (form_fits k).0)));
      participants_beyond = none;
      calls = λ p l. omega (arith, calls_below k limit t some has.calls q p, most);
      calls_beyond = no_calls_lem;
    }
  where
    header : header_in_range (header_of k t) ≡ true
    header = and_left (header_in_range (header_of k t)) _ q

    size : (1 ≤ t.n) × (t.n ≤ room k)
    size = header_room (header_of k t) header

    fits : (m : ℕ) → within t.n m ≡ true → m < 256 ^ (form_of k).width
    fits m = mask_fits k t.n m size.1

    coordinator : Coordinator.numbers_in_range (full t.n) t.state t.heard ≡ true
    coordinator = and_left (Coordinator.numbers_in_range (full t.n) t.state t.heard) _ (parties_in_range_lem k limit t q)

    own : (Coordinator.state_number (Coordinator.of_numbers t.state t.heard) ≡ t.state) × (Coordinator.heard_of (Coordinator.of_numbers t.state t.heard) ≡ t.heard)
    own = coordinator_numbers.encoded t.state t.heard (and_left _ _ coordinator)

    tested : (i : ℕ) → i < places → participant_in_range t.n i (fields_at t i) ≡ true
    tested i l = every_at (λ j. participant_in_range t.n j (fields_at t j)) places i l (and_right (Coordinator.numbers_in_range (full t.n) t.state t.heard) _ (parties_in_range_lem k limit t q))

    none : (i : ℕ) → (form_of k).places ≤ i → get_or t.participants i zeros ≡ zeros
    none i l = go (dec_lt i places)
      where
        beyond : t.n ≤ i
        beyond = omega (arith, size.1)

        go : Dec (i < places) → get_or t.participants i zeros ≡ zeros
        go (yes h) = zero_fields (fields_at t i) (rw (le-ltb i t.n beyond) at (tested i h))
        go (no ne) = get_or-eq_default t.participants zeros {n = i} (omega (arith, has.participants))

    no_calls_lem : (p : ℕ) → (form_of k).places < p → get_or t.calls p 0 ≡ 0
    no_calls_lem p l = go (dec_lt p (suc places))
      where
        beyond : t.n < p
        beyond = omega (arith, size.1)

        go : Dec (p < suc places) → get_or t.calls p 0 ≡ 0
        go (yes h) = eqb-true (get_or t.calls p 0) 0 (rw (lt-leb p t.n beyond) at (every_at (λ j. count_in_range limit t.n j (get_or t.calls j 0)) (suc places) p h (calls_in_range_lem k limit t q)))
        go (no ne) = get_or-eq_default t.calls 0 {n = p} (omega (arith, has.calls))
