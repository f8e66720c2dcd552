-- The fields of the tail: a release as document 01's numbers, and back. What the tail of that n couldn't hold is out of range. Assumes nothing.
use Rattle.std.specs.Prelude.{◌≡◌, Bool, true, cond, ◌&&◌, ℕ, suc, eqb, leb, ltb, length, get_or}
use Rattle.number.specs.Table.{tabulate, every}
use Rattle.mask.specs.Mask.{full, within}
use Rattle.store.specs.Log.{record_number, record_of, is_record, is_allowed, places}
use Rattle.participant.specs.Participant
use Rattle.coordinator.specs.Coordinator
use Rattle.schedule.specs.Record.{header_in_range}
use Rattle.rules.specs.State.{participant_of, log_of, types}
use Rattle.tail.specs.Types.{Kind, LogPair, Participant, Header, Site, Release, ParticipantFields, Tail}

-- a release in numbers: n, votes, coordinator state and heard mask, five message masks; for each participant state, heard mask, first, last; for each
-- party the due store calls made

abbrev pub fields_for : Participant → LogPair → ParticipantFields
fields_for p l =
    record { state = Participant.state_number p; heard = Participant.heard_of p; first = record_number l.first; last = record_number l.last }

abbrev pub fields_of : Release → ℕ → ParticipantFields
fields_of r i = fields_for (participant_of r i) (log_of r i)

abbrev pub tail_of : Release → Tail
tail_of r =
    record {
      n = r.n;
      votes = r.votes;
      state = Coordinator.state_number r.coordinator;
      heard = Coordinator.heard_of r.coordinator;
      messages = r.messages;
      participants = tabulate places (fields_of r);
      calls = r.calls;
    }

-- and back

abbrev pub site_of : ParticipantFields → Site
site_of f = record { participant = Participant.of_numbers f.state f.heard }

abbrev pub pair_of : ParticipantFields → LogPair
pair_of f = record { first = record_of f.first; last = record_of f.last }

-- beyond n
abbrev pub zeros : ParticipantFields
zeros = record { state = 0; heard = 0; first = 0; last = 0 }

abbrev pub fields_at : Tail → ℕ → ParticipantFields
fields_at t i = get_or t.participants i zeros

abbrev pub release_of : Tail → Release
release_of t =
    record {
      n = t.n;
      votes = t.votes;
      coordinator = Coordinator.of_numbers t.state t.heard;
      messages = t.messages;
      sites = tabulate places (λ i. site_of (fields_at t i));
      store = record { logs = tabulate places (λ i. pair_of (fields_at t i)) };
      calls = t.calls;
    }

-- field by field, what the tail of that n could hold

-- n and votes are those of a header of that kind
abbrev pub header_of : Kind → Tail → Header
header_of k t = record { kind = k; n = t.n; votes = t.votes }

abbrev pub messages_in_range : Tail → Bool
messages_in_range t = every (λ k. within t.n (get_or t.messages k 0)) types

abbrev pub records_in_range : ParticipantFields → Bool
records_in_range f = is_record f.first && (is_record f.last && is_allowed (pair_of f))

-- zeros beyond n

abbrev pub fields_zero : ParticipantFields → Bool
fields_zero f = eqb f.state 0 && (eqb f.heard 0 && (eqb f.first 0 && eqb f.last 0))

abbrev pub participant_in_range : ℕ → ℕ → ParticipantFields → Bool
participant_in_range n i f = cond (ltb i n) (Participant.numbers_in_range (full n) i f.state f.heard && records_in_range f) (fields_zero f)

abbrev pub participants_in_range : Tail → Bool
participants_in_range t = every (λ i. participant_in_range t.n i (fields_at t i)) places

abbrev pub parties_in_range : Tail → Bool
parties_in_range t = Coordinator.numbers_in_range (full t.n) t.state t.heard && participants_in_range t

-- a call count is below a limit, which is the entry's
abbrev pub count_in_range : ℕ → ℕ → ℕ → ℕ → Bool
count_in_range limit n p k = cond (leb p n) (ltb k limit) (eqb k 0)

abbrev pub calls_in_range : ℕ → Tail → Bool
calls_in_range limit t = every (λ p. count_in_range limit t.n p (get_or t.calls p 0)) (suc places)

-- under a header of that kind
abbrev pub tail_in_range : Kind → ℕ → Tail → Bool
tail_in_range k limit t = header_in_range (header_of k t) && (messages_in_range t && (parties_in_range t && calls_in_range limit t))

-- The way back and the numbers belong together: decode after encode is the identity, encode after decode on what is in range
pub record TailNumbers : Type 0 where
  pub decoded : (r : Release) → length r.sites ≡ places → length r.store.logs ≡ places → release_of (tail_of r) ≡ r
  pub encoded : (k : Kind) (limit : ℕ) (t : Tail) → length t.participants ≡ places → tail_in_range k limit t ≡ true → tail_of (release_of t) ≡ t
