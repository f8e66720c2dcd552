-- The fields of the tail go to a release and back, every tail that a run reaches is in range, and the single step follows the run from there.
-- Assumes nothing.
use mathlib.Core.Path.{◌≡◌, refl, sym, ap, ap₂, ◌∙◌}
use mathlib.Core.Bool.{Bool, true, false, cond, ◌&&◌}
use Prim.Native.Nat.{ℕ, zero, suc, ◌≤◌, ◌<◌}
use native.Mathlib.Omega.{arith}
use lib.Dec.{leb, ltb}
use lib.ListN.{length, length-replicate, get_or}
use borrow.Author.Tests.{ltb-true, ltb-false, leb-false, lt-ltb, le-leb}
use Rattle.number.proofs.Laws.{and_left, and_right, and_true, is_number_lem, are_numbers_lem}
use Rattle.mask.specs.Mask.{full, within}
use Rattle.store.specs.Log.{record_number, record_of, is_record, is_allowed, empty, places}
use Rattle.store.proofs.Numbers.{record_numbers}
use Rattle.participant.specs.Participant
use Rattle.coordinator.specs.Coordinator
use Rattle.participant.proofs.Numbers.{participant_numbers}
use Rattle.coordinator.proofs.Numbers.{coordinator_numbers}
use Rattle.kind.specs.Kind.{room}
use Rattle.kind.specs.Step.{step_number, first_number, second_number, in_range, numbers_in_range}
use Rattle.kind.proofs.Numbers.{step_numbers, step_tested}
use Rattle.rules.specs.State.{participant_of, log_of, first_of, last_of, waiting, fresh}
use Rattle.rules.specs.Step.{step}
use Rattle.rules.specs.Run.{after, count_limit, Countable}
use Rattle.rules.specs.Range.{ReleaseInRange}
use Rattle.number.specs.Table.{tabulate}
use Rattle.tail.specs.Tail.{fields_of, tail_of, site_of, pair_of, fields_at, release_of, records_in_range, fields_zero, participant_in_range, participants_in_range, count_in_range, tail_in_range, TailNumbers}
use Rattle.tail.specs.Single.{handed, single_step, SingleStepFollows}
use Rattle.tail.specs.Types.{Kind, LogPair, Message, Participant, Coordinator, Site, Release, Step, Tail, ParticipantFields}
use Rattle.number.proofs.Table.{get_d_tabulate, tabulate_list, every_at, every_all}
use Rattle.rules.proofs.Agreement.{Later, later, fresh_inv}
use Rattle.rules.proofs.Reached.{reached_in_range}
use Rattle.rules.proofs.Room.{SameRoom, after_room}
use Rattle.tail.proofs.TailRange.{parties_in_range_lem, zero_fields}
use Rattle.tail.proofs.SingleCases.{single_taken}

-- from numbers to a release and back to them

fields_equal : {s h f l s' h' f' l' : ℕ} → s ≡ s' → h ≡ h' → f ≡ f' → l ≡ l'
    → ◌≡◌ {A = ParticipantFields} (record { state = s; heard = h; first = f; last = l }) (record { state = s'; heard = h'; first = f'; last = l' })
fields_equal p q r t = rw (p, q, r, t) refl

abbrev fields_from_lem : Site → LogPair → ParticipantFields
fields_from_lem s l =
    record {
      state = Participant.state_number s.participant;
      heard = Participant.heard_of s.participant;
      first = record_number l.first;
      last = record_number l.last;
    }

fields_encoded : (n i : ℕ) (f : ParticipantFields) (b : Bool)
    → cond b (Participant.numbers_in_range (full n) i f.state f.heard && records_in_range f) (fields_zero f) ≡ true → fields_from_lem (site_of f) (pair_of f) ≡ f
fields_encoded n i f true q =
    let p = participant_numbers.encoded f.state f.heard (and_left _ _ (and_left (Participant.numbers_in_range (full n) i f.state f.heard) _ q)) in
    let r : records_in_range f ≡ true = and_right (Participant.numbers_in_range (full n) i f.state f.heard) _ q in
    let t = and_right (is_record f.first) _ r in
    fields_equal p.0 p.1 (record_numbers.encoded f.first (and_left _ _ r)) (record_numbers.encoded f.last (and_left _ _ t))
fields_encoded n i f false q =
    rw (zero_fields f q) refl

tail_encoded : (k : Kind) (limit : ℕ) (t : Tail) → length t.participants ≡ places → tail_in_range k limit t ≡ true → tail_of (release_of t) ≡ t
tail_encoded k limit t l q =
    rw (p.0, p.1, each) refl
  where
    p : (Coordinator.state_number (Coordinator.of_numbers t.state t.heard) ≡ t.state) × (Coordinator.heard_of (Coordinator.of_numbers t.state t.heard) ≡ t.heard)
    p = coordinator_numbers.encoded t.state t.heard (and_left _ _ (and_left (Coordinator.numbers_in_range (full t.n) t.state t.heard) _ (parties_in_range_lem k limit t q)))

    passed : participants_in_range t ≡ true
    passed = and_right (Coordinator.numbers_in_range (full t.n) t.state t.heard) _ (parties_in_range_lem k limit t q)

    at : (i : ℕ) → i < places → fields_of (release_of t) i ≡ fields_at t i
    at i h =
        ap₂ fields_from_lem (get_d_tabulate places (λ j. site_of (fields_at t j)) i waiting h) (get_d_tabulate places (λ j. pair_of (fields_at t j)) i empty h)
        ∙ fields_encoded t.n i (fields_at t i) (ltb i t.n) (every_at (λ j. participant_in_range t.n j (fields_at t j)) places i h passed)

    each : tabulate places (fields_of (release_of t)) ≡ t.participants
    each = tabulate_list places (fields_of (release_of t)) t.participants _ l at

release_decoded : (r : Release) → length r.sites ≡ places → length r.store.logs ≡ places → release_of (tail_of r) ≡ r
release_decoded r l k =
    rw (coordinator_numbers.decoded r.coordinator, sites, logs) refl
  where
    site_at : (i : ℕ) → i < places → site_of (fields_at (tail_of r) i) ≡ get_or r.sites i waiting
    site_at i h = rw (get_d_tabulate places (fields_of r) i _ h, participant_numbers.decoded (participant_of r i)) refl

    sites : tabulate places (λ i. site_of (fields_at (tail_of r) i)) ≡ r.sites
    sites = tabulate_list places (λ i. site_of (fields_at (tail_of r) i)) r.sites waiting l site_at

    log_at_lem : (i : ℕ) → i < places → pair_of (fields_at (tail_of r) i) ≡ get_or r.store.logs i empty
    log_at_lem i h = rw (get_d_tabulate places (fields_of r) i _ h, record_numbers.decoded (first_of r i), record_numbers.decoded (last_of r i)) refl

    logs : tabulate places (λ i. pair_of (fields_at (tail_of r) i)) ≡ r.store.logs
    logs = tabulate_list places (λ i. pair_of (fields_at (tail_of r) i)) r.store.logs empty k log_at_lem

pub tail_numbers : TailNumbers
tail_numbers = record { decoded = release_decoded; encoded = tail_encoded }

-- the tail of a release in range is in range

pub message_tested : (r : Release) → ReleaseInRange r → (k : ℕ) → k < 5 → within r.n (get_or r.messages k 0) ≡ true
message_tested r g zero h = g.messages Message.Request
message_tested r g (suc zero) h = g.messages Message.ReplyYes
message_tested r g (suc (suc zero)) h = g.messages Message.ReplyAbort
message_tested r g (suc (suc (suc zero))) h = g.messages Message.Commit
message_tested r g (suc (suc (suc (suc zero)))) h = g.messages Message.Abort
message_tested r g (suc (suc (suc (suc (suc k))))) h = absurd (omega arith)

records_tested : (l : LogPair) → is_allowed l ≡ true
    → is_record (record_number l.first)
    && (is_record (record_number l.last) && is_allowed (record { first = record_of (record_number l.first); last = record_of (record_number l.last) }))
    ≡ true
records_tested l q =
    and_true _ _ (is_number_lem record_number record_of record_numbers l.first)
    (and_true _ _ (is_number_lem record_number record_of record_numbers l.last)
    (rw (record_numbers.decoded l.first, record_numbers.decoded l.last) q))

numbers_tested : (n i : ℕ) (p : Participant) → Participant.in_range (full n) i p ≡ true → Participant.numbers_in_range (full n) i (Participant.state_number p) (Participant.heard_of p) ≡ true
numbers_tested n i p q =
    and_true _ _ (are_numbers_lem Participant.state_number Participant.heard_of Participant.of_numbers participant_numbers p)
    (rw (participant_numbers.decoded p) q)

coordinator_numbers_tested : (n : ℕ) (c : Coordinator) → Coordinator.in_range (full n) c ≡ true → Coordinator.numbers_in_range (full n) (Coordinator.state_number c) (Coordinator.heard_of c) ≡ true
coordinator_numbers_tested n c q =
    and_true _ _ (are_numbers_lem Coordinator.state_number Coordinator.heard_of Coordinator.of_numbers coordinator_numbers c)
    (rw (coordinator_numbers.decoded c) q)

fields_tested : (r : Release) → ReleaseInRange r → (i : ℕ) (b : Bool) → ltb i r.n ≡ b → participant_in_range r.n i (fields_of r i) ≡ true
fields_tested r g i true e =
    rw e
    (and_true _ _ (numbers_tested r.n i (participant_of r i) (g.participants i (ltb-true i r.n e))) (records_tested (log_of r i) (g.logs i (ltb-true i r.n e))))
fields_tested r g i false e =
    rw e
    (ap₂ (λ (p : Participant) (l : LogPair). fields_zero (fields_from_lem (record { participant = p }) l)) (g.participants_beyond i (ltb-false i r.n e))
    (g.logs_beyond i (ltb-false i r.n e)))

count_tested : (limit : ℕ) (r : Release) → ReleaseInRange r → ((p : ℕ) → get_or r.calls p 0 < limit) → (p : ℕ) (b : Bool) → leb p r.n ≡ b
    → count_in_range limit r.n p (get_or r.calls p 0) ≡ true
count_tested limit r g k p true e = rw e (lt-ltb (get_or r.calls p 0) limit (k p))
count_tested limit r g k p false e = rw (e, g.calls_beyond p (leb-false p r.n e)) refl

pub tail_in_range_lem : (kind : Kind) (limit : ℕ) (r : Release) → r.n ≤ room kind → ReleaseInRange r → ((p : ℕ) → get_or r.calls p 0 < limit)
    → tail_in_range kind limit (tail_of r) ≡ true
tail_in_range_lem kind limit r h g k =
    and_true _ _ (and_true _ _ (and_true _ _ (le-leb 1 r.n g.positive) (le-leb r.n (room kind) h)) g.votes)
    (and_true _ _ (every_all _ 5 (message_tested r g))
    (and_true _ _ (and_true _ _ (coordinator_numbers_tested r.n r.coordinator g.coordinator) (every_all _ places at))
    (every_all _ (suc places) (λ p l. count_tested limit r g k p (leb p r.n) refl))))
  where
    at : (i : ℕ) → i < places → participant_in_range r.n i (fields_at (tail_of r) i) ≡ true
    at i l = ap (participant_in_range r.n i) (get_d_tabulate places (fields_of r) i _ l) ∙ fields_tested r g i (ltb i r.n) refl

-- and the single step follows the run

single_follows : (r : Release) → r.n ≤ room Kind.WideHeader → length r.sites ≡ places → length r.store.logs ≡ places → ReleaseInRange r → Countable r.calls
    → (s : Step) → in_range r.n s ≡ true → single_step (tail_of r) (step_number s) (first_number s) (second_number s) ≡ handed (tail_of r) (step r s)
single_follows r h l m g k s q =
    sym (single_taken (tail_of r) (step_number s) (first_number s) (second_number s) (tail_in_range_lem Kind.WideHeader count_limit r h g k) (step_tested r.n s q))
    ∙ ap₂ (λ (x : Release) (y : Step). handed (tail_of r) (step x y)) (release_decoded r l m) (step_numbers.decoded s)

pub single_step_follows : SingleStepFollows
single_step_follows n votes pos fits w steps h s q k =
    single_follows r (rw c.same_n fits) (room.sites ∙ length-replicate places waiting) (room.logs ∙ length-replicate places empty)
    (reached_in_range places n votes pos (omega arith) w steps h) k s (rw c.same_n q)
  where
    r : Release
    r = after (fresh places n votes) steps

    c : Later (fresh places n votes) r
    c = later (fresh places n votes) steps h (fresh_inv places n votes (omega arith))

    room : SameRoom (fresh places n votes) r
    room = after_room (fresh places n votes) steps
