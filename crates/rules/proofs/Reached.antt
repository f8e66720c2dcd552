-- Every release that a run reaches is in range, and keeps its logs. Assumes nothing.
use mathlib.Core.Path.{◌≡◌, refl}
use mathlib.Core.Logic.{◌≢◌}
use mathlib.Core.List.{List, [], ◌∷◌}
use mathlib.Core.Bool.{true}
use Prim.Native.Nat.{ℕ, suc, ◌+◌, ◌^◌, ◌≤◌, ◌<◌}
use native.Mathlib.Omega.{arith}
use lib.Pow.{pow_pos}
use lib.ListN.{get_or}
use Rattle.std.specs.Prelude.{Option}
use Rattle.kind.specs.Step.{AllInRange}
use Rattle.mask.specs.Mask.{has, insert, remove, full}
use Rattle.mask.proofs.Laws.{lt_within, within_lt, insert_lt, remove_le, full_lt}
use Rattle.store.specs.Log.{allowed, empty}
use Rattle.participant.specs.Participant
use Rattle.coordinator.specs.Coordinator
use Rattle.rules.proofs.Ranges.{ParticipantInRange, CoordinatorInRange, ToInRange, CoordinatorToInRange, participant_tested, coordinator_tested, request_range, decision_range, timeout_range, answer_range, none_heard, reply_yes_range, reply_abort_range, coordinator_answer_range}
use Rattle.rules.proofs.Cases.{crash_cases, restart_cases, start_cases, coordinator_timeout_cases, coordinator_crash_cases, coordinator_restart_cases}
use Rattle.rules.specs.State.{participant_of, participant_at, log_of, log_at, first_of, last_of, mask_at, mask_of, waiting, fresh}
use Rattle.rules.specs.Step.{called, send, send_all, take_out, with_mask, with_participant, participant_to, with_coordinator, coordinator_to, coordinator_goes, receive, step}
use Rattle.rules.specs.Run.{after}
use Rattle.rules.specs.Range.{ReleaseInRange, ReachedInRange, LogsKept, ReachedKept}
use Rattle.rules.specs.Types.{LogRecord, None, Yes, Abort, Commit, LogPair, Participant, Waiting, Site, Message, Decision, Coordinator, Transition, Step, Release, Report}
use Rattle.rules.proofs.FirstRecords.{Keep}
use Rattle.rules.proofs.Invariant.{Inv, Allowed}
use Rattle.rules.proofs.Updates.{set_all, mask_all, Good}
use Rattle.rules.proofs.Bounds.{Bounds, bounds}
use Rattle.rules.proofs.Causes.{Cause, idles, starts, delivers, copies, loses, answered, lost, coordinator_answered_lem, coordinator_lost, times_out, crashes, restarts, coordinator_times_out, coordinator_crashes, coordinator_restarts, cause}
use Rattle.rules.proofs.Safety.{call_guard, step_good}
use Rattle.rules.proofs.Agreement.{replicate_all, fresh_inv, fresh_mask, after_append, range_left, range_right, Later, later}

-- the ranges that a step keeps, over the parts that they read. Pairs allowed follow from the invariant
pub record Ranges (n votes : ℕ) (c : Coordinator) (messages : List ℕ) (sites : List Site) (logs : List LogPair) (calls : List ℕ) : Type 0 where
  pub positive : 1 ≤ n
  pub votes_range : votes < 2 ^ n
  pub coordinator : CoordinatorInRange n c
  pub masks : (m : Message) → mask_at messages m < 2 ^ n
  pub participants : (i : ℕ) → i < n → ParticipantInRange n i (participant_at sites i)
  pub participants_beyond : (i : ℕ) → n ≤ i → participant_at sites i ≡ Waiting
  pub logs_beyond : (j : ℕ) → n ≤ j → log_at logs j ≡ empty
  pub calls_beyond : (p : ℕ) → n < p → get_or calls p 0 ≡ 0

abbrev pub Ranged : Release → Type 0
Ranged r = Ranges r.n r.votes r.coordinator r.messages r.sites r.store.logs r.calls

-- the updates

mask_ranged : (r : Release) (m : Message) (x : ℕ) → Ranged r → x < 2 ^ r.n → Ranged (with_mask m x r)
mask_ranged r m x b h =
    record {
      positive = b.positive;
      votes_range = b.votes_range;
      coordinator = b.coordinator;
      masks = mask_all (λ (k : Message) (y : ℕ). y < 2 ^ r.n) r.messages m x b.masks h;
      participants = b.participants;
      participants_beyond = b.participants_beyond;
      logs_beyond = b.logs_beyond;
      calls_beyond = b.calls_beyond;
    }

send_ranged : (r : Release) (m : Message) (i : ℕ) → i < r.n → Ranged r → Ranged (send m i r)
send_ranged r m i h b = mask_ranged r m (insert i (mask_of r m)) b (insert_lt r.n i (mask_of r m) h (b.masks m))

take_out_ranged : (r : Release) (m : Message) (i : ℕ) → Ranged r → Ranged (take_out m i r)
take_out_ranged r m i b = mask_ranged r m (remove i (mask_of r m)) b (omega (arith, remove_le i (mask_of r m), b.masks m))

participant_ranged : (r : Release) (i : ℕ) (p : Participant) → i < r.n → Ranged r → ParticipantInRange r.n i p → Ranged (with_participant i p r)
participant_ranged r i p l b h =
    record {
      positive = b.positive;
      votes_range = b.votes_range;
      coordinator = b.coordinator;
      masks = b.masks;
      participants = set_all (λ (j : ℕ) (s : Site). j < r.n → ParticipantInRange r.n j s.participant) r.sites i (record { participant = p }) waiting b.participants (λ _. h);
      participants_beyond = set_all (λ (j : ℕ) (s : Site). r.n ≤ j → s.participant ≡ Waiting) r.sites i (record { participant = p }) waiting b.participants_beyond (λ g. absurd (omega arith));
      logs_beyond = b.logs_beyond;
      calls_beyond = b.calls_beyond;
    }

to_ranged : (r : Release) (i : ℕ) (p : Participant) (s : Option Message) → i < r.n → Ranged r → ParticipantInRange r.n i p → Ranged (participant_to i p s r).next
unfolding participant_to
to_ranged r i p Option.None l b h = participant_ranged r i p l b h
to_ranged r i p (Option.Some m) l b h = participant_ranged (send m i r) i p l (send_ranged r m i l b) h

with_coordinator_ranged : (r : Release) (c : Coordinator) → Ranged r → CoordinatorInRange r.n c → Ranged (with_coordinator c r)
with_coordinator_ranged r c b h =
    record {
      positive = b.positive;
      votes_range = b.votes_range;
      coordinator = h;
      masks = b.masks;
      participants = b.participants;
      participants_beyond = b.participants_beyond;
      logs_beyond = b.logs_beyond;
      calls_beyond = b.calls_beyond;
    }

coordinator_ranged : (r : Release) (c : Coordinator) (s : Option Message) → Ranged r → CoordinatorInRange r.n c → Ranged (coordinator_to c s r).next
unfolding coordinator_to
coordinator_ranged r c Option.None b h = with_coordinator_ranged r c b h
coordinator_ranged r c (Option.Some m) b h = with_coordinator_ranged (send_all m r) c (mask_ranged r m (full r.n) b (full_lt r.n)) h

called_ranged : (r : Release) (p j : ℕ) (l : LogPair) → p ≤ r.n → j < r.n → Ranged r → Ranged (called p j l r)
called_ranged r p j l hp hj b =
    record {
      positive = b.positive;
      votes_range = b.votes_range;
      coordinator = b.coordinator;
      masks = b.masks;
      participants = b.participants;
      participants_beyond = b.participants_beyond;
      logs_beyond = set_all (λ (k : ℕ) (x : LogPair). r.n ≤ k → x ≡ empty) r.store.logs j l empty b.logs_beyond (λ g. absurd (omega arith));
      calls_beyond = set_all (λ (k x : ℕ). r.n < k → x ≡ 0) r.calls p (get_or r.calls p 0 + 1) 0 b.calls_beyond (λ g. absurd (omega arith));
    }

-- the steps

goes_ranged : (r : Release) (t : Transition Coordinator) → Ranged r → CoordinatorToInRange r.n t → Ranged (coordinator_goes t r).next
goes_ranged r Option.None b k = b
goes_ranged r (Option.Some (c, s)) b k = coordinator_ranged r c s b k

receive_ranged : (r : Release) (m : Message) (i : ℕ) → i < r.n → Ranged r → Ranged (receive m i r).next
receive_ranged r Message.Request i h b =
    to_ranged r i (Participant.on_request (has i r.votes) (participant_of r i)) Option.None h b
    (request_range r.n i h (has i r.votes) (participant_of r i) (b.participants i h))
receive_ranged r Message.ReplyYes i h b =
    goes_ranged r (Coordinator.on_reply_yes (full r.n) i r.coordinator) b (reply_yes_range r.n i h r.coordinator b.coordinator)
receive_ranged r Message.ReplyAbort i h b =
    goes_ranged r (Coordinator.on_reply_abort r.coordinator) b (reply_abort_range r.n r.coordinator b.coordinator)
receive_ranged r Message.Commit i h b =
    to_ranged r i (Participant.on_decision Decision.Commit (participant_of r i)) Option.None h b (decision_range r.n i h Decision.Commit (participant_of r i) (b.participants i h))
receive_ranged r Message.Abort i h b =
    to_ranged r i (Participant.on_decision Decision.Abort (participant_of r i)) Option.None h b (decision_range r.n i h Decision.Abort (participant_of r i) (b.participants i h))

caused_ranged : (r : Release) {s : Step} {t : Report} → Cause r s t → Bounds r.n s → Inv r → Ranged r → Ranged t.next
caused_ranged r idles h v b = b
caused_ranged r (starts {c} {x} q) h v b =
    coordinator_ranged r c x b (rw q at (start_cases (CoordinatorToInRange r.n) (none_heard r.n b.positive) tt r.coordinator))
caused_ranged r (delivers {m} {i} _) h v b = receive_ranged (take_out m i r) m i h.1 (take_out_ranged r m i b)
caused_ranged r (copies {m} {i} _) h v b = receive_ranged r m i h.1 b
caused_ranged r (loses {m} {i}) h v b = take_out_ranged r m i b
caused_ranged r (answered {i} {j} {l} {p} {x} a) h v b =
    to_ranged (called (suc i) j l.log r) i p x h.0 (called_ranged r (suc i) j l.log h.0 h.2 b)
    (rw a.answer at (answer_range r.n i h.0 (participant_of r i) j l.answer h.2 (call_guard r i j l h.0 h.2 v a.done) (b.participants i h.0)))
caused_ranged r (lost {i} {j} {l} a) h v b = called_ranged r (suc i) j l.log h.0 h.2 b
caused_ranged r (coordinator_answered_lem {j} {l} {c} {x} a) h v b =
    coordinator_ranged (called 0 j l.log r) c x (called_ranged r 0 j l.log h.0 h.2 b)
    (rw a.answer at (coordinator_answer_range r.n r.coordinator j l.answer h.2 b.coordinator))
caused_ranged r (coordinator_lost {j} {l} a) h v b = called_ranged r 0 j l.log h.0 h.2 b
caused_ranged r (times_out {i} {p} {x} q) h v b = to_ranged r i p x h b (rw q at (timeout_range r.n i h (participant_of r i) (b.participants i h)))
caused_ranged r (crashes {i} {p} {x} q) h v b = to_ranged r i p x h b (rw q at (crash_cases (λ p t. ToInRange r.n i t) (λ p. tt) tt (participant_of r i)))
caused_ranged r (restarts {i} {p} {x} q) h v b = to_ranged r i p x h b (rw q at (restart_cases (λ p t. ToInRange r.n i t) tt (λ p. tt) (participant_of r i)))
caused_ranged r (coordinator_times_out {c} {x} q) h v b =
    coordinator_ranged r c x b (rw q at (coordinator_timeout_cases (CoordinatorToInRange r.n) (none_heard r.n b.positive) tt r.coordinator))
caused_ranged r (coordinator_crashes {c} {x} q) h v b = coordinator_ranged r c x b (rw q at (coordinator_crash_cases (λ c t. CoordinatorToInRange r.n t) (λ c. tt) tt r.coordinator))
caused_ranged r (coordinator_restarts {c} {x} q) h v b = coordinator_ranged r c x b (rw q at (coordinator_restart_cases (CoordinatorToInRange r.n) tt tt r.coordinator))

-- over a list
pub ranged_from : (r : Release) (ss : List Step) → AllInRange r.n ss → Inv r → Ranged r → Ranged (after r ss)
ranged_from r [] h v b = b
ranged_from r (s ∷ ss) h v b =
    let g : Good r (step r s) = step_good r s h.0 v in
    ranged_from (step r s).next ss (rw g.same_n h.1) g.inv (caused_ranged r (cause r s) (bounds r.n s h.0) v b)

-- a pair that the invariant allows is allowed
pair_allowed : (n : ℕ) (F : ℕ → LogRecord) (first last : LogRecord) → Allowed n F first last → allowed first last ≡ true
pair_allowed n F None None a = refl
pair_allowed n F None Yes a = absurd a
pair_allowed n F None Abort a = absurd a
pair_allowed n F None Commit a = absurd a
pair_allowed n F Yes None a = absurd a
pair_allowed n F Yes Yes a = refl
pair_allowed n F Yes Abort a = refl
pair_allowed n F Yes Commit a = refl
pair_allowed n F Abort None a = absurd a
pair_allowed n F Abort Yes a = absurd a
pair_allowed n F Abort Abort a = refl
pair_allowed n F Abort Commit a = absurd a
pair_allowed n F Commit last a = absurd a

pub in_range_lem : (r : Release) → Inv r → Ranged r → ReleaseInRange r
in_range_lem r v b =
    record {
      positive = b.positive;
      votes = lt_within r.n r.votes b.votes_range;
      coordinator = coordinator_tested r.n r.coordinator b.coordinator;
      messages = λ m. lt_within r.n (mask_of r m) (b.masks m);
      participants = λ i l. participant_tested r.n i (participant_of r i) (b.participants i l);
      logs = λ j l. pair_allowed r.n (first_of r) (first_of r j) (last_of r j) (v.pairs j l);
      participants_beyond = b.participants_beyond;
      logs_beyond = b.logs_beyond;
      calls_beyond = b.calls_beyond;
    }

fresh_ranged : (places n votes : ℕ) → 1 ≤ n → votes < 2 ^ n → Ranged (fresh places n votes)
fresh_ranged places n votes h k =
    record {
      positive = h;
      votes_range = k;
      coordinator = tt;
      masks = λ m. rw (fresh_mask places n votes m) (pow_pos n);
      participants = λ i l. replicate_all (λ (s : Site). ParticipantInRange n i s.participant) places i waiting tt;
      participants_beyond = λ i l. replicate_all (λ (s : Site). s.participant ≡ Waiting) places i waiting refl;
      logs_beyond = λ j l. replicate_all (λ (x : LogPair). x ≡ empty) places j empty refl;
      calls_beyond = λ p l. replicate_all (λ (x : ℕ). x ≡ 0) (suc places) p 0 refl;
    }

pub reached_in_range : ReachedInRange
reached_in_range places n votes h fits k steps g =
    in_range_lem (after (fresh places n votes) steps) (later (fresh places n votes) steps g (fresh_inv places n votes fits)).inv
    (ranged_from (fresh places n votes) steps g (fresh_inv places n votes fits) (fresh_ranged places n votes h (within_lt n votes k)))

-- a first record that is there stays: it is a vote
first_kept : (n : ℕ) (F : ℕ → LogRecord) (first last : LogRecord) (new : LogPair) → Allowed n F first last → Keep (record { first = first; last = last }) new
    → first ≢ None → new.first ≡ first
first_kept n F None last new a k ne = absurd (ne refl)
first_kept n F Yes last new a k ne = k.yes refl
first_kept n F Abort last new a k ne = k.abort refl
first_kept n F Commit last new a k ne = absurd a

pub kept_from : (r : Release) (ss : List Step) → AllInRange r.n ss → Inv r → LogsKept r (after r ss)
kept_from r ss h v =
    let l : Later r (after r ss) = later r ss h v in
    record {
      first = λ j lt ne. first_kept r.n (first_of r) (first_of r j) (last_of r j) (log_of (after r ss) j) (v.pairs j lt) (l.keeps.each j) ne;
      commit = λ j lt q. (l.keeps.each j).last_commit q;
      abort = λ j lt q. (l.keeps.each j).last_abort q;
    }

pub reached_kept : ReachedKept
reached_kept places n votes fits xs ys h =
    let c : Later (fresh places n votes) (after (fresh places n votes) xs) = later (fresh places n votes) xs (range_left n xs ys h) (fresh_inv places n votes fits) in
    rw (after_append (fresh places n votes) xs ys)
    (kept_from (after (fresh places n votes) xs) ys (rw c.same_n (range_right n xs ys h)) c.inv)
