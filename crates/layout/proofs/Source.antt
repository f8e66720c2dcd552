-- The fields that the numbers of a release and its store hold are those of its tail. Assumes nothing.
use mathlib.Core.Path.{◌≡◌, refl, sym, ap₂, ◌∙◌}
use mathlib.Core.List.{flatten}
use Prim.Native.Nat.{ℕ, suc, ◌<◌}
use lib.ListN.{get_or}
use Rattle.number.specs.Table.{tabulate}
use Rattle.number.proofs.Table.{tabulate_list, length_tabulate, get_d_tabulate}
use Rattle.store.specs.Log.{places}
use Rattle.coordinator.specs.Coordinator
use Rattle.rules.specs.State.{types, log_of}
use Rattle.state.specs.Fields.{fields, HasPlaces, n_in, votes_in, coordinator_state_in, coordinator_heard_in, message_in, calls_in}
use Rattle.state.proofs.Parts.{message_in_lem, state_in_lem, heard_in_lem, count_in_lem}
use Rattle.tail.specs.Tail.{fields_of, tail_of, zeros}
use Rattle.layout.specs.Types.{Release}
use Rattle.layout.specs.Numbers.{party_fields, fields_from, tail_from}

module _ (r : Release) (h : HasPlaces r) where
  head : (n_in (fields r) ≡ r.n) × (votes_in (fields r) ≡ r.votes)
      × (coordinator_state_in (fields r) ≡ Coordinator.state_number r.coordinator)
      × (coordinator_heard_in (fields r) ≡ Coordinator.heard_of r.coordinator)
  unfolding fields flatten
  head = (refl, refl, refl, refl)

  party : (i : ℕ) → i < places → fields_from (fields r) r.store i ≡ get_or (tabulate places (fields_of r)) i zeros
  party i g =
      ap₂ (λ s k. party_fields s k (log_of r i)) (state_in_lem r h i g) (heard_in_lem r h i g)
      ∙ sym (get_d_tabulate places (fields_of r) i zeros g)

  pub tail_from_lem : tail_from (fields r) r.store ≡ tail_of r
  tail_from_lem =
      let m = tabulate_list types (message_in (fields r)) r.messages 0 h.messages (message_in_lem r h) in
      let s = tabulate_list places (fields_from (fields r) r.store) (tabulate places (fields_of r)) zeros
      (length_tabulate places (fields_of r)) party in
      let k = tabulate_list (suc places) (calls_in (fields r)) r.calls 0 h.calls (count_in_lem r h) in
      rw (head.0, head.1, head.2, head.3, m, s, k) refl
