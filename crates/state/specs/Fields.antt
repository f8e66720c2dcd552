-- The state of a release, but for its store, as a list of numbers, and its parts read from there and put there. Places count from 0. That a part
-- put into the list of a release is that part of the release is proved in `proofs/Parts.antt`. Assumes nothing.
use Rattle.std.specs.Prelude.{◌≡◌, ℕ, suc, ◌+◌, ◌%◌, length, get_or, set}
use mathlib.Core.List.{List, [], ◌∷◌, map, flatten}
use Rattle.number.specs.Table.{tabulate}
use Rattle.store.specs.Log.{places}
use Rattle.participant.specs.Participant
use Rattle.coordinator.specs.Coordinator
use Rattle.rules.specs.State.{types, message_place}
use Rattle.state.specs.Types.{Store, Message, Participant, Coordinator, Site, Release}

-- what is kept of each participant

abbrev pub site_state : Site → ℕ
site_state s = Participant.state_number s.participant

abbrev pub site_heard : Site → ℕ
site_heard s = Participant.heard_of s.participant

-- n, votes, coordinator state and heard mask; a mask for each type of message; states; heard masks; counts of calls
abbrev pub pieces : Release → List (List ℕ)
pieces r =
    (r.n ∷ r.votes ∷ Coordinator.state_number r.coordinator ∷ Coordinator.heard_of r.coordinator ∷ [])
    ∷ r.messages
    ∷ map site_state r.sites
    ∷ map site_heard r.sites
    ∷ r.calls
    ∷ []

-- one after the other
unfoldable pub fields : Release → List ℕ
fields r = flatten (pieces r)

-- where they stand and begin

abbrev pub votes_from : ℕ
votes_from = 1

abbrev pub coordinator_from : ℕ
coordinator_from = 2

abbrev pub messages_from : ℕ
messages_from = 4

abbrev pub states_from : ℕ
states_from = messages_from + types

abbrev pub heard_from : ℕ
heard_from = states_from + places

abbrev pub counts_from : ℕ
counts_from = heard_from + places

-- a release has a place for each participant, type of message and party
pub record HasPlaces (r : Release) : Type 0 where
  pub sites : length r.sites ≡ places
  pub messages : length r.messages ≡ types
  pub calls : length r.calls ≡ suc places

-- a number read

abbrev pub n_in : List ℕ → ℕ
n_in l = get_or l 0 0

abbrev pub votes_in : List ℕ → ℕ
votes_in l = get_or l votes_from 0

abbrev pub coordinator_state_in : List ℕ → ℕ
coordinator_state_in l = get_or l coordinator_from 0

abbrev pub coordinator_heard_in : List ℕ → ℕ
coordinator_heard_in l = get_or l (coordinator_from + 1) 0

abbrev pub message_in : List ℕ → ℕ → ℕ
message_in l k = get_or l (messages_from + k) 0

abbrev pub state_in : List ℕ → ℕ → ℕ
state_in l i = get_or l (states_from + i) 0

abbrev pub heard_in : List ℕ → ℕ → ℕ
heard_in l i = get_or l (heard_from + i) 0

abbrev pub calls_in : List ℕ → ℕ → ℕ
calls_in l p = get_or l (counts_from + p) 0

-- a part read

unfoldable pub coordinator_in : List ℕ → Coordinator
coordinator_in l = Coordinator.of_numbers (coordinator_state_in l) (coordinator_heard_in l)

unfoldable pub mask_place : Message → ℕ
mask_place m = messages_from + message_place m

unfoldable pub mask_in : List ℕ → Message → ℕ
mask_in l m = get_or l (mask_place m) 0

unfoldable pub participant_in : List ℕ → ℕ → Participant
participant_in l i = Participant.of_numbers (state_in l i) (heard_in l i)

-- a part put

unfoldable pub with_coordinator_in : Coordinator → List ℕ → List ℕ
with_coordinator_in c l = set (set l coordinator_from (Coordinator.state_number c)) (coordinator_from + 1) (Coordinator.heard_of c)

unfoldable pub with_mask_in : Message → ℕ → List ℕ → List ℕ
with_mask_in m x l = set l (mask_place m) x

unfoldable pub with_participant_in : ℕ → Participant → List ℕ → List ℕ
with_participant_in i p l = set (set l (states_from + i) (Participant.state_number p)) (heard_from + i) (Participant.heard_of p)

unfoldable pub counted_in : ℕ → List ℕ → List ℕ
counted_in p l = set l (counts_from + p) (calls_in l p + 1)

-- the release that the numbers and a store represent. A count has two bytes

abbrev pub site_in : List ℕ → ℕ → Site
site_in l i = record { participant = participant_in l i }

abbrev pub count_in : List ℕ → ℕ → ℕ
count_in l p = calls_in l p % 65536

abbrev pub release_in : List ℕ → Store → Release
release_in l s =
    record {
      n = n_in l;
      votes = votes_in l;
      coordinator = coordinator_in l;
      messages = tabulate types (message_in l);
      sites = tabulate places (site_in l);
      store = s;
      calls = tabulate (suc places) (count_in l);
    }

-- a change of a release made on its numbers: those after are the changed release's, whatever release those before represent

abbrev pub Puts : (Release → Release) → List ℕ → List ℕ → Type 0
Puts f before after = (r : Release) → HasPlaces r → before ≡ fields r → after ≡ fields (f r)

-- a whole piece in the place of another

abbrev pub with_messages : List ℕ → Release → Release
with_messages l r =
    record { n = r.n; votes = r.votes; coordinator = r.coordinator; messages = l; sites = r.sites; store = r.store; calls = r.calls }

abbrev pub with_sites : List Site → Release → Release
with_sites l r =
    record { n = r.n; votes = r.votes; coordinator = r.coordinator; messages = r.messages; sites = l; store = r.store; calls = r.calls }

abbrev pub with_calls : List ℕ → Release → Release
with_calls l r =
    record { n = r.n; votes = r.votes; coordinator = r.coordinator; messages = r.messages; sites = r.sites; store = r.store; calls = l }
