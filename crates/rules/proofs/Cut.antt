-- What stands at a cut: crashes leave every log and every message as it was, take down the parties named, and leave the others alone.
-- Assumes nothing.
use mathlib.Core.Path.{◌≡◌, refl, sym, ◌∙◌}
use mathlib.Core.Logic.{◌⊎◌, inl, inr}
use mathlib.Core.List.Memᴰ
use mathlib.Core.List.{List, [], ◌∷◌, Memᴰ}
use Prim.Native.Nat.{ℕ, suc, ◌≤◌, ◌<◌}
use native.Mathlib.Nat.{le_trans}
use native.Mathlib.Decide.{ℕ_discrete}
use lib.ListN.{length}
use Rattle.rules.specs.State.{participant_of}
use Rattle.rules.specs.Step.{step}
use Rattle.rules.specs.OneParty.{OthersStay}
use Rattle.rules.specs.Run.{after}
use Rattle.rules.specs.Demand.{crashes, AllParties, Cut, CutStands}
use Rattle.rules.specs.Types.{Down, Coordinator, Crash, Release}
use Rattle.rules.proofs.Actions.{restarts_as_written}
use Rattle.rules.proofs.OneParty.{one_party_moves, logs_stay}
use Rattle.rules.proofs.Causes.{cause}
use Rattle.rules.proofs.Room.{caused_room}

-- what a crash of party p leaves
record Struck (r : Release) (p : ℕ) (t : Release) : Type 0 where
  others : OthersStay p r t
  same_room : length t.sites ≡ length r.sites
  logs : t.store ≡ r.store
  counts : t.calls ≡ r.calls
  messages : t.messages ≡ r.messages
  coordinator_down : p ≡ 0 → t.coordinator ≡ Coordinator.Down
  down : (i : ℕ) → i < length r.sites → p ≡ suc i → participant_of t i ≡ Down

struck : (r : Release) (p : ℕ) → Struck r p (step r (Crash p)).next
struck r p =
    record {
      others = one_party_moves r (Crash p);
      same_room = (caused_room r (cause r (Crash p))).sites;
      logs = (logs_stay r (Crash p) refl).0;
      counts = (logs_stay r (Crash p) refl).1;
      messages = (restarts_as_written r).crash_messages p;
      coordinator_down = λ e. rw e (restarts_as_written r).coordinator_crash;
      down = λ i l e. rw e ((restarts_as_written r).crash i l);
    }

-- who is down stays down as others crash

coordinator_stays_down : (r : Release) (ps : List ℕ) → r.coordinator ≡ Coordinator.Down → (after r (crashes ps)).coordinator ≡ Coordinator.Down
coordinator_stays_down r [] q = q
coordinator_stays_down r (p ∷ ps) q = coordinator_stays_down (step r (Crash p)).next ps (go (ℕ_discrete p 0))
  where
    go : Dec (p ≡ 0) → (step r (Crash p)).next.coordinator ≡ Coordinator.Down
    go (yes e) = (struck r p).coordinator_down e
    go (no ne) = (struck r p).others.coordinator ne ∙ q

participant_stays_down : (r : Release) (ps : List ℕ) (i : ℕ) → i < length r.sites → participant_of r i ≡ Down → participant_of (after r (crashes ps)) i ≡ Down
participant_stays_down r [] i l q = q
participant_stays_down r (p ∷ ps) i l q =
    participant_stays_down (step r (Crash p)).next ps i (rw (struck r p).same_room l) (go (ℕ_discrete p (suc i)))
  where
    go : Dec (p ≡ suc i) → participant_of (step r (Crash p)).next i ≡ Down
    go (yes e) = (struck r p).down i l e
    go (no ne) = (struck r p).others.participants i ne ∙ q

pub cut_stands : CutStands
cut_stands r [] h l =
    record {
      same_n = refl;
      same_votes = refl;
      logs = refl;
      counts = refl;
      messages = refl;
      coordinator_down = λ m. absurd (Memᴰ.not-nil m);
      coordinator_kept = λ ne. refl;
      down = λ i lt m. absurd (Memᴰ.not-nil m);
      kept = λ i ne. refl;
    }
cut_stands r (p ∷ ps) h l = go (cut_stands (step r (Crash p)).next ps)
  where
    s : Struck r p (step r (Crash p)).next
    s = struck r p

    go : (AllParties (step r (Crash p)).next.n ps → (step r (Crash p)).next.n ≤ length (step r (Crash p)).next.sites
        → Cut (step r (Crash p)).next ps (after (step r (Crash p)).next (crashes ps)))
        → Cut r (p ∷ ps) (after (step r (Crash p)).next (crashes ps))
    go ih =
        let c : Cut (step r (Crash p)).next ps (after (step r (Crash p)).next (crashes ps)) = ih (rw s.others.same_n h.1) (rw (s.others.same_n, s.same_room) l) in
        record {
          same_n = c.same_n ∙ s.others.same_n;
          same_votes = c.same_votes ∙ s.others.same_votes;
          logs = c.logs ∙ s.logs;
          counts = c.counts ∙ s.counts;
          messages = c.messages ∙ s.messages;
          coordinator_down = λ m. coordinator_of c (Memᴰ.cases_cons m);
          coordinator_kept = λ ne. c.coordinator_kept (λ m. ne (Memᴰ.tail m)) ∙ s.others.coordinator (λ e. ne (Memᴰ.head (sym e)));
          down = λ i lt m. participant_of_lem c i lt (Memᴰ.cases_cons m);
          kept = λ i ne. c.kept i (λ m. ne (Memᴰ.tail m)) ∙ s.others.participants i (λ e. ne (Memᴰ.head (sym e)));
        }
      where
        coordinator_of : Cut (step r (Crash p)).next ps (after (step r (Crash p)).next (crashes ps)) → (0 ≡ p) ⊎ Memᴰ 0 ps
            → (after (step r (Crash p)).next (crashes ps)).coordinator ≡ Coordinator.Down
        coordinator_of c (inl e) = coordinator_stays_down (step r (Crash p)).next ps (s.coordinator_down (sym e))
        coordinator_of c (inr m) = c.coordinator_down m

        participant_of_lem : Cut (step r (Crash p)).next ps (after (step r (Crash p)).next (crashes ps)) → (i : ℕ) → i < r.n → (suc i ≡ p) ⊎ Memᴰ (suc i) ps
            → participant_of (after (step r (Crash p)).next (crashes ps)) i ≡ Down
        participant_of_lem c i lt (inl e) =
            participant_stays_down (step r (Crash p)).next ps i (rw s.same_room (le_trans lt l)) (s.down i (le_trans lt l) (sym e))
        participant_of_lem c i lt (inr m) = c.down i (rw s.others.same_n lt) m
