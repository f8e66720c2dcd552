-- The fields of the tail of the release that some numbers and a store represent. That they are `tail_of` of that release is proved in
-- proofs/Source.antt. Assumes nothing.
use Rattle.std.specs.Prelude.{List, ℕ, suc}
use Rattle.number.specs.Table.{tabulate}
use Rattle.store.specs.Log.{places, record_number}
use Rattle.rules.specs.State.{types, log_at}
use Rattle.state.specs.Fields.{n_in, votes_in, coordinator_state_in, coordinator_heard_in, message_in, state_in, heard_in, calls_in}
use Rattle.layout.specs.Types.{Store, LogPair, ParticipantFields, Tail}

abbrev pub party_fields : ℕ → ℕ → LogPair → ParticipantFields
party_fields s h l = record { state = s; heard = h; first = record_number l.first; last = record_number l.last }

abbrev pub fields_from : List ℕ → Store → ℕ → ParticipantFields
fields_from l s i = party_fields (state_in l i) (heard_in l i) (log_at s.logs i)

abbrev pub tail_from : List ℕ → Store → Tail
tail_from l s =
    record {
      n = n_in l;
      votes = votes_in l;
      state = coordinator_state_in l;
      heard = coordinator_heard_in l;
      messages = tabulate types (message_in l);
      participants = tabulate places (fields_from l s);
      calls = tabulate (suc places) (calls_in l);
    }
