-- Demand 3 gives atomic commitment. Assumes nothing.
use mathlib.Core.Path.{◌≡◌, refl, sym, ap, ◌∙◌}
use mathlib.Core.Logic.{◌⊎◌, inl, inr}
use mathlib.Core.Bool.{Bool, true, false, cond}
use mathlib.Core.List.Memᴰ
use mathlib.Core.List.{List, [], ◌∷◌, ◌++◌, append-nil, Memᴰ}
use Prim.Native.Nat.{ℕ, suc, ◌+◌, ◌≤◌, ◌<◌}
use native.Mathlib.Omega.{arith}
use native.Mathlib.Nat.{le_trans}
use native.Mathlib.Decide.{ℕ_discrete}
use lib.ListN.{length, length-replicate}
use borrow.Author.Tests.{eqb-true}
use Rattle.kind.specs.Step.{AllInRange}
use Rattle.mask.specs.Mask.{bit, has, within}
use Rattle.mask.proofs.Laws.{full_ext, within_lt}
use Rattle.rules.specs.State.{participant_of, waiting, fresh}
use Rattle.rules.specs.Report.{outcome_number, known, learnt}
use Rattle.rules.specs.Step.{step, is_due}
use Rattle.rules.specs.OneParty.{party_of, knows_of}
use Rattle.rules.specs.Run.{outcomes, after}
use Rattle.rules.specs.Demand.{Reported, Holds, answered, Ready, Decides, Calm, AllCalm, Demand, DemandHolds}
use Rattle.rules.specs.Commitment.{Event, Decided, TimedOut, Restarted, Seen, AtomicCommitment}
use Rattle.rules.specs.History.{decision, timeout_or_restart, history, KeepsGoing, CommitmentHolds, YesByVote, DemandGives}
use Rattle.rules.specs.Types.{Decision, Release, Site, Step, Start, Deliver, Copy, Lose, Timeout, Crash, Restart, Outcome}
use Rattle.rules.proofs.Actions.{not_due_stays}
use Rattle.rules.proofs.OneParty.{one_party_moves, header_kept, reported_as_written}
use Rattle.rules.proofs.Causes.{cause}
use Rattle.rules.proofs.Room.{caused_room}
use Rattle.rules.proofs.Agreement.{after_append, replicate_all}
use Rattle.rules.proofs.Demand.{demand_holds}
use Rattle.rules.proofs.Votes.{yes_by_vote}

abbrev decision_outcome : Decision → Outcome
decision_outcome Decision.Commit = Outcome.Commit
decision_outcome Decision.Abort = Outcome.Abort

-- idle and moved are no decisions
no_decision : (o : Outcome) → outcome_number o < 2 → (d : Decision) → o ≡ decision_outcome d → ⊥
no_decision o l Decision.Commit q = omega (arith, l, ap outcome_number q)
no_decision o l Decision.Abort q = omega (arith, l, ap outcome_number q)

-- what a run from a release shows
abbrev seen_of : Release → List Step → List Event
seen_of r steps = history steps (outcomes r steps)

-- what an event says: its outcome and what kind of event it is

abbrev said_by : Event → Outcome
said_by (Decided p d) = decision_outcome d
said_by (TimedOut p) = Outcome.Idle
said_by (Restarted p) = Outcome.Idle

-- an event that says idle is no decision
not_decided : (p : ℕ) (d : Decision) (e : Event) → Decided p d ≡ e → said_by e ≡ Outcome.Idle → ⊥
not_decided p d e q h = no_decision Outcome.Idle (omega arith) d (sym (ap said_by q ∙ h))

timeout_decides_none : (b : Bool) (s : Step) (p : ℕ) (d : Decision) → Seen (cond b (timeout_or_restart s) []) (Decided p d) → ⊥
timeout_decides_none false s p d m = Memᴰ.not-nil m
timeout_decides_none true Start p d m = Memᴰ.not-nil m
timeout_decides_none true (Deliver x q) p d m = Memᴰ.not-nil m
timeout_decides_none true (Copy x q) p d m = Memᴰ.not-nil m
timeout_decides_none true (Lose x q) p d m = Memᴰ.not-nil m
timeout_decides_none true (Step.Call q j) p d m = Memᴰ.not-nil m
timeout_decides_none true (Step.CallLost q j) p d m = Memᴰ.not-nil m
timeout_decides_none true (Timeout q) p d m = not_decided p d (TimedOut q) (Memᴰ.eq_of_singleton m) refl
timeout_decides_none true (Crash q) p d m = Memᴰ.not-nil m
timeout_decides_none true (Restart q) p d m = not_decided p d (Restarted q) (Memᴰ.eq_of_singleton m) refl

decision_says : (q : ℕ) (o : Outcome) (p : ℕ) (d : Decision) → Seen (decision q o) (Decided p d) → o ≡ decision_outcome d
decision_says q Outcome.Idle p d m = absurd (Memᴰ.not-nil m)
decision_says q Outcome.Moved p d m = absurd (Memᴰ.not-nil m)
decision_says q Outcome.Commit p d m = sym (ap said_by (Memᴰ.eq_of_singleton m))
decision_says q Outcome.Abort p d m = sym (ap said_by (Memᴰ.eq_of_singleton m))

-- A decision that is seen was reported by a step

record At (r : Release) (steps : List Step) (d : Decision) : Type 0 where
  before : List Step
  by : Step
  later : List Step
  split : steps ≡ before ++ (by ∷ later)
  reported : (step (after r before) by).outcome ≡ decision_outcome d

decided_at : (r : Release) (steps : List Step) (p : ℕ) (d : Decision) → Seen (seen_of r steps) (Decided p d) → At r steps d
decided_at r [] p d m = absurd (Memᴰ.not-nil m)
decided_at r (s ∷ ss) p d m = first (Memᴰ.append_cases (cond (is_due r s) (timeout_or_restart s) []) m) (decided_at (step r s).next ss p d)
  where
    then : At (step r s).next ss d → At r (s ∷ ss) d
    then a = record { before = s ∷ a.before; by = a.by; later = a.later; split = ap (λ l. s ∷ l) a.split; reported = a.reported }

    second : Seen (decision (party_of s) (step r s).outcome) (Decided p d) ⊎ Seen (seen_of (step r s).next ss) (Decided p d)
        → (Seen (seen_of (step r s).next ss) (Decided p d) → At (step r s).next ss d) → At r (s ∷ ss) d
    second (inl x) ih = record { before = []; by = s; later = ss; split = refl; reported = decision_says (party_of s) (step r s).outcome p d x }
    second (inr x) ih = then (ih x)

    first : Seen (cond (is_due r s) (timeout_or_restart s) []) (Decided p d) ⊎ Seen (decision (party_of s) (step r s).outcome ++ seen_of (step r s).next ss) (Decided p d)
        → (Seen (seen_of (step r s).next ss) (Decided p d) → At (step r s).next ss d) → At r (s ∷ ss) d
    first (inl x) ih = absurd (timeout_decides_none (is_due r s) s p d x)
    first (inr x) ih = second (Memᴰ.append_cases (decision (party_of s) (step r s).outcome) x) ih

reported_there : (r : Release) (xs : List Step) (s : Step) (ys : List Step) → Reported (step (after r xs) s).outcome r (xs ++ (s ∷ ys))
reported_there r [] s ys = Memᴰ.head refl
reported_there r (x ∷ xs) s ys = Memᴰ.append_right ((step r x).outcome ∷ []) (reported_there (step r x).next xs s ys)

at_reported : (r : Release) (steps : List Step) (d : Decision) → At r steps d → Reported (decision_outcome d) r steps
at_reported r steps d a = rw a.split (rw a.reported at (reported_there r a.before a.by a.later))

-- No timeout and no restart is seen: none was due

due_seen : (r : Release) (s : Step) (ss : List Step) (x : Event) → is_due r s ≡ true → Memᴰ x (timeout_or_restart s) → Seen (seen_of r (s ∷ ss)) x
due_seen r s ss x d m =
    Memᴰ.append_left {s = cond (is_due r s) (timeout_or_restart s) []} (decision (party_of s) (step r s).outcome ++ seen_of (step r s).next ss) (rw d m)

seen_later : (r : Release) (s : Step) (ss : List Step) (x : Event) → Seen (seen_of (step r s).next ss) x → Seen (seen_of r (s ∷ ss)) x
seen_later r s ss x m = Memᴰ.append_right (cond (is_due r s) (timeout_or_restart s) []) (Memᴰ.append_right (decision (party_of s) (step r s).outcome) m)

all_calm : (r : Release) (steps : List Step) → ((q : ℕ) → Seen (seen_of r steps) (TimedOut q) → ⊥) → ((q : ℕ) → Seen (seen_of r steps) (Restarted q) → ⊥) → AllCalm r steps
all_calm r [] t u = tt
all_calm r (s ∷ ss) t u = (calm, all_calm (step r s).next ss (λ q m. t q (seen_later r s ss (TimedOut q) m)) (λ q m. u q (seen_later r s ss (Restarted q) m)))
  where
    undue : (x : Event) → Memᴰ x (timeout_or_restart s) → (Seen (seen_of r (s ∷ ss)) x → ⊥) → (b : Bool) → is_due r s ≡ b → b ≡ false
    undue x m no-event true q = absurd (no-event (due_seen r s ss x q m))
    undue x m no-event false q = refl

    calm : Calm r s
    calm =
        record {
          timeout = λ p e. undue (TimedOut p) (rw e (Memᴰ.head refl)) (t p) (is_due r s) refl;
          restart = λ p e. undue (Restarted p) (rw e (Memᴰ.head refl)) (u p) (is_due r s) refl;
        }

-- A participant that knows its decision reported it

abbrev SomeSeen : Release → List Step → ℕ → Type 0
SomeSeen r steps i = (d : Decision) × Seen (seen_of r steps) (Decided (suc i) d)

abbrev Knows : Release → ℕ → Type 0
Knows r i = (d : Decision) × (known (participant_of r i) ≡ decision_outcome d)

decision_seen : (p : ℕ) (d : Decision) → Seen (decision p (decision_outcome d)) (Decided p d)
decision_seen p Decision.Commit = Memᴰ.head refl
decision_seen p Decision.Abort = Memᴰ.head refl

-- by one step: it knew already, or the step reports it
learns : (r : Release) (s : Step) (i : ℕ) → suc i ≤ length r.sites → Knows (step r s).next i → Knows r i ⊎ ((d : Decision) × Seen (decision (party_of s) (step r s).outcome) (Decided (suc i) d))
learns r s i l (d, k) = party (ℕ_discrete (party_of s) (suc i)) (is_due r s) refl
  where
    reports : (o : Outcome) → known (participant_of r i) ≡ o → party_of s ≡ suc i → (step r s).outcome ≡ learnt o (decision_outcome d)
        → Knows r i ⊎ ((d : Decision) × Seen (decision (party_of s) (step r s).outcome) (Decided (suc i) d))
    reports Outcome.Idle q e h = inr (d, rw (e, h) (decision_seen (suc i) d))
    reports Outcome.Moved q e h = inr (d, rw (e, h) (decision_seen (suc i) d))
    reports Outcome.Commit q e h = inl (Decision.Commit, q)
    reports Outcome.Abort q e h = inl (Decision.Abort, q)

    party : Dec (party_of s ≡ suc i) → (b : Bool) → is_due r s ≡ b → Knows r i ⊎ ((d : Decision) × Seen (decision (party_of s) (step r s).outcome) (Decided (suc i) d))
    party (no ne) b q = inl (d, sym (ap known ((one_party_moves r s).participants i ne)) ∙ k)
    party (yes e) false q = inl (d, rw (not_due_stays r s q) at k)
    party (yes e) true q =
        reports (known (participant_of r i)) refl e
        (reported_as_written r s (rw e l) q ∙ ap (λ p. learnt (knows_of r p) (knows_of (step r s).next p)) e ∙ ap (learnt (known (participant_of r i))) k)

knows_seen : (r : Release) (steps : List Step) (i : ℕ) → suc i ≤ length r.sites → Knows (after r steps) i → Knows r i ⊎ SomeSeen r steps i
knows_seen r [] i l k = inl k
knows_seen r (s ∷ ss) i l k = later (knows_seen (step r s).next ss i (rw (caused_room r (cause r s)).sites l) k)
  where
    now : Knows r i ⊎ ((d : Decision) × Seen (decision (party_of s) (step r s).outcome) (Decided (suc i) d)) → Knows r i ⊎ SomeSeen r (s ∷ ss) i
    now (inl x) = inl x
    now (inr x) = inr (x.0, Memᴰ.append_right (cond (is_due r s) (timeout_or_restart s) []) (Memᴰ.append_left (seen_of (step r s).next ss) x.1))

    later : Knows (step r s).next i ⊎ SomeSeen (step r s).next ss i → Knows r i ⊎ SomeSeen r (s ∷ ss) i
    later (inl x) = now (learns r s i l x)
    later (inr x) = inr (x.0, seen_later r s ss (Decided (suc i) x.0) x.1)

holds_knows : (r : Release) (i : ℕ) → Holds r i → Knows r i
holds_knows r i (inl h) = (Decision.Commit, ap known h.state)
holds_knows r i (inr h) = (Decision.Abort, ap known h.state)

knows_or_not : (r : Release) (i : ℕ) (o : Outcome) → known (participant_of r i) ≡ o → Knows r i ⊎ (Knows r i → ⊥)
knows_or_not r i Outcome.Idle q = inr (λ k. no_decision Outcome.Idle (omega arith) k.0 (sym q ∙ k.1))
knows_or_not r i Outcome.Moved q = inr (λ k. no_decision Outcome.Moved (omega arith) k.0 (sym q ∙ k.1))
knows_or_not r i Outcome.Commit q = inl (Decision.Commit, q)
knows_or_not r i Outcome.Abort q = inl (Decision.Abort, q)

module _ (voted : YesByVote) (demand : DemandHolds) (places n votes : ℕ) (room : n ≤ places) (carried : within n votes ≡ true) (steps : List Step) (range : AllInRange n steps) where
  abbrev start : Release
  start = fresh places n votes

  holds : Demand places n votes steps
  holds = demand places n votes room steps range

  agreed : (p q : ℕ) (d e : Decision) → Seen (seen_of start steps) (Decided p d) → Seen (seen_of start steps) (Decided q e) → d ≡ e
  agreed p q d e x y = both d e (at_reported start steps d (decided_at start steps p d x)) (at_reported start steps e (decided_at start steps q e y))
    where
      both : (d e : Decision) → Reported (decision_outcome d) start steps → Reported (decision_outcome e) start steps → d ≡ e
      both Decision.Commit Decision.Commit a b = refl
      both Decision.Commit Decision.Abort a b = absurd (holds.claims.agree a b)
      both Decision.Abort Decision.Commit a b = absurd (holds.claims.agree b a)
      both Decision.Abort Decision.Abort a b = refl

  all_voted : (p : ℕ) → Seen (seen_of start steps) (Decided p Decision.Commit) → (i : ℕ) → i < n → has i votes ≡ true
  all_voted p m i lt =
      let a : At start steps Decision.Commit = decided_at start steps p Decision.Commit m in
      voted places n votes (a.before ++ (a.by ∷ [])) i
      (rw (after_append start a.before (a.by ∷ [])) ((holds.claims.commit_backed a.before a.by a.later a.split a.reported).each i lt))

  never_aborted : (p : ℕ) → Seen (seen_of start steps) (Decided p Decision.Abort) → ((i : ℕ) → i < n → has i votes ≡ true)
      → ((q : ℕ) → Seen (seen_of start steps) (TimedOut q) → ⊥) → ((q : ℕ) → Seen (seen_of start steps) (Restarted q) → ⊥) → ⊥
  never_aborted p m all t u =
      holds.no_abort (full_ext n votes (within_lt n votes carried) (λ j l. eqb-true (bit j votes) 1 (all j l))) (all_calm start steps t u)
      (at_reported start steps Decision.Abort (decided_at start steps p Decision.Abort m))

  decided_if_going : (i : ℕ) → i < n → KeepsGoing start steps i → SomeSeen start steps i
  decided_if_going i lt g = found (knows_seen start steps i (rw (length-replicate places waiting) (le_trans lt room)) (knows g.all_done))
    where
      decides : Decides (after start g.before) i g.later []
      decides =
          holds.claims.decides i lt g.before g.later [] (g.split ∙ ap (λ l. g.before ++ l) (sym (append-nil g.later))) g.up
          (rw (append-nil g.later) g.undisturbed)

      there : after start steps ≡ after (after start g.before) g.later
      there = rw g.split (after_append start g.before g.later)

      ends : Knows (after start steps) i ⊎ (Knows (after start steps) i → ⊥) → (Ready (after start steps) i → ⊥) → Knows (after start steps) i
      ends (inl k) none = k
      ends (inr never) none = absurd (none (rw there (decides.until (λ h. never (rw there (holds_knows _ i h)))).1))

      knows : (n + 1 ≤ answered i (after start g.before) g.later) ⊎ (Ready (after start steps) i → ⊥) → Knows (after start steps) i
      knows (inl all) = rw there (holds_knows _ i (decides.within (rw (header_kept start g.before).0 all)))
      knows (inr none) = ends (knows_or_not (after start steps) i (known (participant_of (after start steps) i)) refl) none

      found : Knows start i ⊎ SomeSeen start steps i → SomeSeen start steps i
      found (inl x) =
          absurd (no_decision Outcome.Moved (omega arith) x.0 (sym (replicate_all (λ (s : Site). known s.participant ≡ Outcome.Moved) places i waiting refl) ∙ x.1))
      found (inr x) = x

  committed : AtomicCommitment n (λ i. has i votes) (KeepsGoing start steps) (seen_of start steps)
  committed =
      record {
        agreement = agreed;
        final = λ before later p d e q m. agreed p p e d (rw q (Memᴰ.append_right before (Memᴰ.append_right (Decided p d ∷ []) m))) (rw q (Memᴰ.append_right before (Memᴰ.head refl)));
        commit_valid = all_voted;
        abort_valid = never_aborted;
        termination = decided_if_going;
      }

pub demand_gives : DemandGives
demand_gives voted demand places n votes room carried steps range = committed voted demand places n votes room carried steps range

pub commitment_holds : CommitmentHolds
commitment_holds = demand_gives yes_by_vote demand_holds
