-- A part read from the numbers of a release is that part of it, and the numbers with a part put are those of the release with that part. Assumes
-- nothing.
use mathlib.Core.Path.{◌≡◌, refl, sym, ap, ap₂, ◌∙◌}
use mathlib.Core.List.{List, [], map, flatten, append-nil}
use Prim.Native.Nat.{ℕ, suc, ◌+◌, ◌<◌}
use native.Mathlib.Omega.{arith}
use lib.Dec.{lit<}
use lib.ListN.{length, get_or, drop, set, length-map, length-set, get_or-map}
use Rattle.store.specs.Log.{places}
use Rattle.participant.specs.Participant
use Rattle.participant.proofs.Numbers.{participant_numbers}
use Rattle.coordinator.proofs.Numbers.{coordinator_numbers}
use Rattle.rules.specs.State.{types, waiting, participant_of, message_place, mask_of}
use Rattle.rules.specs.Step.{with_mask, with_participant, with_coordinator, counted}
use Rattle.state.specs.Types.{Message, Participant, Coordinator, Site, Release}
use Rattle.state.specs.Fields.{site_state, site_heard, pieces, fields, messages_from, states_from, heard_from, counts_from, HasPlaces, votes_in, coordinator_in, mask_place, mask_in, participant_in, with_coordinator_in, with_mask_in, with_participant_in, counted_in, with_messages, with_calls}
use Rattle.state.proofs.Pieces.{begins, begins_set, read_piece, drop_piece, put_piece, set_map}

mask_room : (m : Message) → message_place m < types
mask_room Message.Request = lit< tt
mask_room Message.ReplyYes = lit< tt
mask_room Message.ReplyAbort = lit< tt
mask_room Message.Commit = lit< tt
mask_room Message.Abort = lit< tt

module _ (r : Release) (h : HasPlaces r) where
  -- where the pieces begin
  record Begins : Type 0 where
    messages : begins (pieces r) 1 ≡ messages_from
    states : begins (pieces r) 2 ≡ states_from
    heards : begins (pieces r) 3 ≡ heard_from
    counts : begins (pieces r) 4 ≡ counts_from

  begin : Begins
  begin =
      let a = length-map r.sites site_state in
      let b = length-map r.sites site_heard in
      record {
        messages = refl;
        states = omega (arith, h.messages);
        heards = omega (arith, h.messages, h.sites, a);
        counts = omega (arith, h.messages, h.sites, a, b);
      }

  -- number i of piece k, which begins at a place
  read : (k place i : ℕ) → begins (pieces r) k ≡ place → i < length (get_or (pieces r) k []) → get_or (fields r) (place + i) 0 ≡ get_or (get_or (pieces r) k []) i 0
  unfolding fields
  read k place i q g = rw (← q) (read_piece (pieces r) k i g)

  put : (k place i v : ℕ) → begins (pieces r) k ≡ place → i < length (get_or (pieces r) k [])
      → set (fields r) (place + i) v ≡ flatten (set (pieces r) k (set (get_or (pieces r) k []) i v))
  unfolding fields
  put k place i v q g = rw (← q) (put_piece (pieces r) k i v g)

  -- a part of each participant or log, as a piece has it

  site_number : (f : Site → ℕ) (i : ℕ) → f waiting ≡ 0 → get_or (map f r.sites) i 0 ≡ f (get_or r.sites i waiting)
  site_number f i q = rw (← q) (get_or-map f r.sites i waiting)

  site_room : (f : Site → ℕ) (i : ℕ) → i < places → i < length (map f r.sites)
  site_room f i g = omega (arith, length-map r.sites f, h.sites)

  pub same_votes : votes_in (fields r) ≡ r.votes
  unfolding fields flatten
  same_votes = refl

  pub coordinator_in_lem : coordinator_in (fields r) ≡ r.coordinator
  unfolding coordinator_in fields flatten
  coordinator_in_lem = coordinator_numbers.decoded r.coordinator

  pub state_in_lem : (i : ℕ) → i < places → get_or (fields r) (states_from + i) 0 ≡ Participant.state_number (participant_of r i)
  state_in_lem i g = read 2 states_from i begin.states (site_room site_state i g) ∙ site_number site_state i refl

  pub heard_in_lem : (i : ℕ) → i < places → get_or (fields r) (heard_from + i) 0 ≡ Participant.heard_of (participant_of r i)
  heard_in_lem i g = read 3 heard_from i begin.heards (site_room site_heard i g) ∙ site_number site_heard i refl

  pub participant_in_lem : (i : ℕ) → i < places → participant_in (fields r) i ≡ participant_of r i
  unfolding participant_in
  participant_in_lem i g =
      ap₂ Participant.of_numbers (state_in_lem i g) (heard_in_lem i g)
      ∙ participant_numbers.decoded (participant_of r i)

  pub message_in_lem : (k : ℕ) → k < types → get_or (fields r) (messages_from + k) 0 ≡ get_or r.messages k 0
  message_in_lem k g = read 1 messages_from k begin.messages (omega (arith, h.messages))

  pub mask_in_lem : (m : Message) → mask_in (fields r) m ≡ mask_of r m
  unfolding mask_in mask_place
  mask_in_lem m = message_in_lem (message_place m) (mask_room m)

  pub count_in_lem : (p : ℕ) → p < suc places → get_or (fields r) (counts_from + p) 0 ≡ get_or r.calls p 0
  count_in_lem p g = read 4 counts_from p begin.counts (omega (arith, h.calls))

  -- they are the last numbers
  pub counts_last : drop counts_from (fields r) ≡ r.calls
  unfolding fields flatten
  counts_last = ap (λ k. drop k (fields r)) (sym begin.counts) ∙ drop_piece (pieces r) 4 ∙ append-nil r.calls

  -- parts put

  pub with_coordinator_lem : (c : Coordinator) → with_coordinator_in c (fields r) ≡ fields (with_coordinator c r)
  unfolding with_coordinator_in fields flatten
  with_coordinator_lem c = refl

  pub with_message : (k x : ℕ) → k < types → set (fields r) (messages_from + k) x ≡ fields (with_messages (set r.messages k x) r)
  unfolding fields
  with_message k x g = put 1 messages_from k x begin.messages (omega (arith, h.messages))

  pub with_count : (p x : ℕ) → p < suc places → set (fields r) (counts_from + p) x ≡ fields (with_calls (set r.calls p x) r)
  unfolding fields
  with_count p x g = put 4 counts_from p x begin.counts (omega (arith, h.calls))

  pub with_mask_lem : (m : Message) (x : ℕ) → with_mask_in m x (fields r) ≡ fields (with_mask m x r)
  unfolding with_mask_in mask_place
  with_mask_lem m x = with_message (message_place m) x (mask_room m)

  -- two pieces that stand one after the other, each with a number changed
  put_both : (k place place' i v w : ℕ) → begins (pieces r) k ≡ place → begins (pieces r) (suc k) ≡ place' → i < length (get_or (pieces r) k [])
      → i < length (get_or (set (pieces r) k (set (get_or (pieces r) k []) i v)) (suc k) [])
      → set (set (fields r) (place + i) v) (place' + i) w
      ≡ flatten (set (set (pieces r) k (set (get_or (pieces r) k []) i v)) (suc k) (set (get_or (set (pieces r) k (set (get_or (pieces r) k []) i v)) (suc k) []) i w))
  put_both k place place' i v w q q' g g' =
      let ps : List (List ℕ) = set (pieces r) k (set (get_or (pieces r) k []) i v) in
      let e : begins ps (suc k) ≡ place' = begins_set (pieces r) k (suc k) (set (get_or (pieces r) k []) i v) (length-set (get_or (pieces r) k []) i v) ∙ q' in
      ap (λ l. set l (place' + i) w) (put k place i v q g) ∙ ap (λ n. set (flatten ps) (n + i) w) (sym e) ∙ put_piece ps (suc k) i w g'

  same_both : (k : ℕ) {a b c d : List ℕ} → a ≡ b → c ≡ d → flatten (set (set (pieces r) k a) (suc k) c) ≡ flatten (set (set (pieces r) k b) (suc k) d)
  same_both k e e' = ap₂ (λ x y. flatten (set (set (pieces r) k x) (suc k) y)) e e'

  pub with_participant_lem : (i : ℕ) (p : Participant) → i < places → with_participant_in i p (fields r) ≡ fields (with_participant i p r)
  unfolding with_participant_in fields
  with_participant_lem i p g =
      let s : Site = record { participant = p } in
      put_both 2 states_from heard_from i (site_state s) (site_heard s) begin.states begin.heards (site_room site_state i g) (site_room site_heard i g)
      ∙ same_both 2 (set_map site_state r.sites i s) (set_map site_heard r.sites i s)

  pub counts_one : (p : ℕ) → p < suc places → counted_in p (fields r) ≡ fields (counted p r)
  unfolding counted_in
  counts_one p g = rw (count_in_lem p g) (with_count p (get_or r.calls p 0 + 1) g)
