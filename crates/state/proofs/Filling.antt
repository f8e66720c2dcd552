-- A release put into numbers piece by piece, and read back. Assumes nothing.
use mathlib.Core.Path.{◌≡◌, refl, ap, ◌∙◌}
use mathlib.Core.List.{List, [], ◌∷◌, flatten}
use Prim.Native.Nat.{ℕ, zero, suc, ◌+◌, ◌%◌, ◌≤◌, ◌<◌}
use native.Mathlib.Omega.{arith}
use lib.ListN.{length, get_or, set}
use Rattle.number.specs.Table.{tabulate}
use Rattle.number.proofs.Table.{up_to, up_to_next, up_to_done, tabulate_list}
use Rattle.store.specs.Log.{places}
use Rattle.rules.specs.State.{types, waiting, fresh}
use Rattle.rules.specs.Step.{with_coordinator, step}
use Rattle.rules.proofs.Causes.{cause}
use Rattle.rules.proofs.Room.{caused_room}
use Rattle.state.specs.Types.{Participant, Site, Step, Release}
use Rattle.state.specs.Fields.{fields, messages_from, counts_from, HasPlaces, with_coordinator_in, with_participant_in, message_in, site_in, count_in, release_in, Puts, with_messages, with_sites, with_calls}
use Rattle.state.proofs.Parts.{coordinator_in_lem, message_in_lem, participant_in_lem, count_in_lem, with_coordinator_lem, with_message, with_participant_lem, with_count}

up_to_size : {A : Type 0} (i : ℕ) (f : ℕ → A) (l : List A) → length (up_to i f l) ≡ length l
up_to_size zero f l = refl
up_to_size (suc i) f [] = refl
up_to_size (suc i) f (x ∷ l) = ap suc (up_to_size i (λ j. f (suc j)) l)

-- a loop that puts a piece: the release with the first i of it changed
abbrev pub UpTo : {A : Type 0} → (List A → Release → Release) → (Release → List A) → (ℕ → A) → ℕ → List ℕ → List ℕ → Type 0
UpTo with piece f i before now = Puts (λ r. with (up_to i f (piece r)) r) before now

module _ (before now : List ℕ) where
  pub one_message : (f : ℕ → ℕ) (k x : ℕ) → k < types → x ≡ f k → UpTo with_messages (λ r. r.messages) f k before now
      → UpTo with_messages (λ r. r.messages) f (k + 1) before (set now (messages_from + k) x)
  one_message f k x g q u r h e =
      let t : Release = with_messages (up_to k f r.messages) r in
      let places : HasPlaces t = record { sites = h.sites; messages = up_to_size k f r.messages ∙ h.messages; calls = h.calls } in
      ap (λ l. set l (messages_from + k) x) (u r h e) ∙ with_message t places k x g ∙ ap (λ l. fields (with_messages l r)) (up_to_next k f r.messages _ x refl q)

  pub one_count : (f : ℕ → ℕ) (p x : ℕ) → p < suc places → x ≡ f p → UpTo with_calls (λ r. r.calls) f p before now
      → UpTo with_calls (λ r. r.calls) f (p + 1) before (set now (counts_from + p) x)
  one_count f p x g q u r h e =
      let t : Release = with_calls (up_to p f r.calls) r in
      let places : HasPlaces t = record { sites = h.sites; messages = h.messages; calls = up_to_size p f r.calls ∙ h.calls } in
      ap (λ l. set l (counts_from + p) x) (u r h e) ∙ with_count t places p x g ∙ ap (λ l. fields (with_calls l r)) (up_to_next p f r.calls _ x refl q)

  pub one_participant_lem : (f : ℕ → Site) (i : ℕ) (s : Site) → i < places → s ≡ f i → UpTo with_sites (λ r. r.sites) f i before now
      → UpTo with_sites (λ r. r.sites) f (i + 1) before (with_participant_in i s.participant now)
  one_participant_lem f i s g q u r h e =
      let t : Release = with_sites (up_to i f r.sites) r in
      let places : HasPlaces t = record { sites = up_to_size i f r.sites ∙ h.sites; messages = h.messages; calls = h.calls } in
      ap (with_participant_in i s.participant) (u r h e) ∙ with_participant_lem t places i s.participant g ∙ ap (λ l. fields (with_sites l r)) (up_to_next i f r.sites _ s refl q)

  -- all of them
  pub all_put : {A : Type 0} (with : List A → Release → Release) (piece : Release → List A) (f : ℕ → A) (k i : ℕ) → i ≤ k → k ≤ i
      → ((r : Release) → HasPlaces r → length (piece r) ≡ k) → UpTo with piece f i before now → Puts (with (tabulate k f)) before now
  all_put with piece f k i g g' q u r h e = u r h e ∙ ap (λ l. fields (with l r)) (up_to_done k i f (piece r) _ g g' (q r h) refl)

pub fresh_places : (n votes : ℕ) → HasPlaces (fresh places n votes)
fresh_places n votes = record { sites = refl; messages = refl; calls = refl }

-- a step leaves the places as they are
pub step_places : (r : Release) (s : Step) → HasPlaces r → HasPlaces (step r s).next
step_places r s h =
    let same = caused_room r (cause r s) in
    record { sites = same.sites ∙ h.sites; messages = same.messages ∙ h.messages; calls = same.calls ∙ h.calls }

whole : {A : Type 0} (n : ℕ) (l : List A) (d : A) → length l ≡ n → tabulate n (λ i. get_or l i d) ≡ l
whole n l d g = tabulate_list n (λ i. get_or l i d) l d g (λ i _. refl)

-- a whole release, piece by piece
pub all_pieces : (r : Release) → HasPlaces r → (a b c d e : List ℕ) → a ≡ fields (fresh places r.n r.votes) → b ≡ with_coordinator_in r.coordinator a
    → Puts (with_messages (tabulate types (λ k. get_or r.messages k 0))) b c
    → Puts (with_sites (tabulate places (λ i. get_or r.sites i waiting))) c d
    → Puts (with_calls (tabulate (suc places) (λ p. get_or r.calls p 0))) d e
    → e ≡ fields r
unfolding fields
all_pieces r h a b c d e p q m s k =
    let begun : Release = with_coordinator r.coordinator (fresh places r.n r.votes) in
    let sent : Release = with_messages r.messages begun in
    let sited : Release = with_sites r.sites sent in
    let first : b ≡ fields begun = q ∙ ap (with_coordinator_in r.coordinator) p ∙ with_coordinator_lem (fresh places r.n r.votes) (fresh_places r.n r.votes) r.coordinator in
    let second : c ≡ fields sent = m begun (record { sites = refl; messages = refl; calls = refl }) first ∙ ap (λ x. fields (with_messages x begun)) (whole types r.messages 0 h.messages) in
    let third : d ≡ fields sited = s sent (record { sites = refl; messages = h.messages; calls = refl }) second ∙ ap (λ x. fields (with_sites x sent)) (whole places r.sites waiting h.sites) in
    k sited (record { sites = h.sites; messages = h.messages; calls = refl }) third ∙ ap (λ x. fields (with_calls x sited)) (whole (suc places) r.calls 0 h.calls)

low : (k : ℕ) → k < 65536 → k % 65536 ≡ k
low k g = omega arith

-- and back
pub release_in_lem : (r : Release) → HasPlaces r → ((p : ℕ) → get_or r.calls p 0 < 65536) → release_in (fields r) r.store ≡ r
unfolding fields flatten
release_in_lem r h small =
    let m = tabulate_list types (message_in (fields r)) r.messages 0 h.messages (λ k g. message_in_lem r h k g) in
    let s = tabulate_list places (site_in (fields r)) r.sites waiting h.sites (λ i g. ap (λ (p : Participant). record { participant = p }) (participant_in_lem r h i g)) in
    let k = tabulate_list (suc places) (count_in (fields r)) r.calls 0 h.calls (λ p g. ap (λ n. n % 65536) (count_in_lem r h p g) ∙ low (get_or r.calls p 0) (small p)) in
    rw (coordinator_in_lem r h, m, s, k) refl
