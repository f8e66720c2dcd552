-- The rules keep a party's heard mask in range. `Reached` and the host's entry cite this. Assumes nothing.
use mathlib.Core.Path.{◌≡◌, refl, sym, ap, ◌∙◌}
use mathlib.Core.Logic.{◌≢◌}
use mathlib.Core.Bool.{Bool, true, false, not, ◌||◌, true≢false}
use Prim.Native.Nat.{ℕ, ◌^◌, ◌≤◌, ◌<◌}
use lib.Dec.{eqb}
use lib.Pow.{pow_pos}
use borrow.Author.Tests.{eqb-true, eqb-false, ne_eqb, not-true}
use Rattle.std.specs.Prelude.{Option}
use Rattle.number.proofs.Laws.{and_left, and_right, and_true}
use Rattle.mask.specs.Mask.{has, insert, full, within}
use Rattle.mask.proofs.Laws.{lt_within, within_lt, insert_lt, full_more, has_zero, has_full, has_insert_other, has_insert_neither, not_inserted}
use Rattle.rules.specs.Types.{LogRecord, None, Yes, Abort, Commit, Call, Decision, Participant, Waiting, VotingYes, Closing, Uncertain, Terminating, RecordingCommit, RecordingAbort, DoneCommit, DoneAbort, Down, Transition, Coordinator}
use Rattle.participant.specs.Participant
use Rattle.coordinator.specs.Coordinator
use Rattle.rules.proofs.Cases.{cond_cases, answer_cases, request_cases, decision_cases, timeout_cases, reply_yes_cases, reply_abort_cases, coordinator_answer_cases, enters_cases}

-- the ranges as propositions

pub record HeardInRange (n i h : ℕ) : Type 0 where
  pub below : h < 2 ^ n
  pub others : has i h ≡ false
  pub part : insert i h ≢ full n

abbrev pub ParticipantInRange : ℕ → ℕ → Participant → Type 0
ParticipantInRange n i Waiting = Unit {0}
ParticipantInRange n i VotingYes = Unit {0}
ParticipantInRange n i Closing = Unit {0}
ParticipantInRange n i Uncertain = Unit {0}
ParticipantInRange n i (Terminating h) = HeardInRange n i h
ParticipantInRange n i RecordingCommit = Unit {0}
ParticipantInRange n i RecordingAbort = Unit {0}
ParticipantInRange n i DoneCommit = Unit {0}
ParticipantInRange n i DoneAbort = Unit {0}
ParticipantInRange n i Down = Unit {0}

pub record CoordinatorHeardInRange (n h : ℕ) : Type 0 where
  pub below : h < 2 ^ n
  pub part : h ≢ full n

abbrev pub CoordinatorInRange : ℕ → Coordinator → Type 0
CoordinatorInRange n Coordinator.Idle = Unit {0}
CoordinatorInRange n (Coordinator.Waiting h) = CoordinatorHeardInRange n h
CoordinatorInRange n (Coordinator.Terminating h) = CoordinatorHeardInRange n h
CoordinatorInRange n Coordinator.Commit = Unit {0}
CoordinatorInRange n Coordinator.Abort = Unit {0}
CoordinatorInRange n Coordinator.Down = Unit {0}
CoordinatorInRange n Coordinator.Retired = Unit {0}

-- and as tests: each says the same

pub participant_tested : (n i : ℕ) (p : Participant) → ParticipantInRange n i p → Participant.in_range (full n) i p ≡ true
participant_tested n i Waiting h = refl
participant_tested n i VotingYes h = refl
participant_tested n i Closing h = refl
participant_tested n i Uncertain h = refl
participant_tested n i (Terminating x) h =
    and_true _ _ (lt_within n x h.below) (and_true _ _ (ap not h.others) (ap not (ne_eqb (insert i x) (full n) h.part)))
participant_tested n i RecordingCommit h = refl
participant_tested n i RecordingAbort h = refl
participant_tested n i DoneCommit h = refl
participant_tested n i DoneAbort h = refl
participant_tested n i Down h = refl

coordinator_heard_tested : (n h : ℕ) → CoordinatorHeardInRange n h → Coordinator.heard_in_range (full n) h ≡ true
coordinator_heard_tested n x h = and_true _ _ (lt_within n x h.below) (ap not (ne_eqb x (full n) h.part))

pub coordinator_tested : (n : ℕ) (c : Coordinator) → CoordinatorInRange n c → Coordinator.in_range (full n) c ≡ true
coordinator_tested n Coordinator.Idle h = refl
coordinator_tested n (Coordinator.Waiting x) h = coordinator_heard_tested n x h
coordinator_tested n (Coordinator.Terminating x) h = coordinator_heard_tested n x h
coordinator_tested n Coordinator.Commit h = refl
coordinator_tested n Coordinator.Abort h = refl
coordinator_tested n Coordinator.Down h = refl
coordinator_tested n Coordinator.Retired h = refl

pub participant_held : (n i : ℕ) (p : Participant) → Participant.in_range (full n) i p ≡ true → ParticipantInRange n i p
participant_held n i Waiting q = tt
participant_held n i VotingYes q = tt
participant_held n i Closing q = tt
participant_held n i Uncertain q = tt
participant_held n i (Terminating h) q =
    let r = and_right (within n h) _ q in
    record {
      below = within_lt n h (and_left (within n h) _ q);
      others = not-true (has i h) (and_left (not (has i h)) _ r);
      part = eqb-false (insert i h) (full n) (not-true (eqb (insert i h) (full n)) (and_right (not (has i h)) _ r));
    }
participant_held n i RecordingCommit q = tt
participant_held n i RecordingAbort q = tt
participant_held n i DoneCommit q = tt
participant_held n i DoneAbort q = tt
participant_held n i Down q = tt

-- which log participant i calls in its state
abbrev pub Guard : ℕ → Participant → ℕ → Type 0
Guard i Waiting j = ⊥
Guard i VotingYes j = j ≡ i
Guard i Closing j = j ≡ i
Guard i Uncertain j = ⊥
Guard i (Terminating h) j = has j (insert i h) ≡ false
Guard i RecordingCommit j = j ≡ i
Guard i RecordingAbort j = j ≡ i
Guard i DoneCommit j = ⊥
Guard i DoneAbort j = ⊥
Guard i Down j = ⊥

abbrev pub Guarded : ℕ → Participant → ℕ → Option Call → Type 0
Guarded i p j Option.None = Unit {0}
Guarded i p j (Option.Some (Call.LogOnce r)) = Guard i p j
Guarded i p j (Option.Some (Call.Log r)) = Guard i p j

own_guarded : (i j : ℕ) (p : Participant) (c : Call) → (j ≡ i → Guarded i p j (Option.Some c)) → Guarded i p j (Participant.own_call i j c)
own_guarded i j p c f = cond_cases (Guarded i p j) (eqb j i) (Option.Some c) Option.None (λ t. f (eqb-true j i t)) (λ t. tt)

pub pending_guarded : (i : ℕ) (p : Participant) (j : ℕ) → Guarded i p j (Participant.pending i p j)
pending_guarded i Waiting j = tt
pending_guarded i VotingYes j = own_guarded i j VotingYes (Call.LogOnce Yes) (λ e. e)
pending_guarded i Closing j = own_guarded i j Closing (Call.LogOnce Abort) (λ e. e)
pending_guarded i Uncertain j = tt
pending_guarded i (Terminating h) j =
    cond_cases (Guarded i (Terminating h) j) (eqb j i || has j h) Option.None (Option.Some (Call.LogOnce Abort)) (λ t. tt) (λ t. has_insert_neither i j h t)
pending_guarded i RecordingCommit j = own_guarded i j RecordingCommit (Call.Log Commit) (λ e. e)
pending_guarded i RecordingAbort j = own_guarded i j RecordingAbort (Call.Log Abort) (λ e. e)
pending_guarded i DoneCommit j = tt
pending_guarded i DoneAbort j = tt
pending_guarded i Down j = tt

-- the rules

abbrev pub ToInRange : ℕ → ℕ → Transition Participant → Type 0
ToInRange n i Option.None = Unit {0}
ToInRange n i (Option.Some (p, s)) = ParticipantInRange n i p

abbrev pub CoordinatorToInRange : ℕ → Transition Coordinator → Type 0
CoordinatorToInRange n Option.None = Unit {0}
CoordinatorToInRange n (Option.Some (c, s)) = CoordinatorInRange n c

module _ (n i : ℕ) (lt : i < n) where
  terminating_range : (h : ℕ) → h < 2 ^ n → has i h ≡ false → ParticipantInRange n i (Participant.terminating (full n) i h)
  terminating_range h b o =
      cond_cases (ParticipantInRange n i) (eqb (insert i h) (full n)) RecordingCommit (Terminating h) (λ t. tt)
      (λ t. record { below = b; others = o; part = eqb-false (insert i h) (full n) t })

  unheard_range : ParticipantInRange n i (Participant.terminating (full n) i 0)
  unheard_range = terminating_range 0 (pow_pos n) (has_zero i)

  pub request_range : (vote : Bool) (p : Participant) → ParticipantInRange n i p → ParticipantInRange n i (Participant.on_request vote p)
  request_range vote p =
      request_cases (λ p p'. ParticipantInRange n i p → ParticipantInRange n i p') vote
      (λ k. cond_cases (ParticipantInRange n i) vote VotingYes Closing (λ t. tt) (λ t. tt)) (λ p k. k) p

  recording_range : (d : Decision) → ParticipantInRange n i (Participant.recording d)
  recording_range Decision.Commit = tt
  recording_range Decision.Abort = tt

  pub decision_range : (d : Decision) (p : Participant) → ParticipantInRange n i p → ParticipantInRange n i (Participant.on_decision d p)
  decision_range d p = decision_cases (λ p p'. ParticipantInRange n i p → ParticipantInRange n i p') d (λ k. recording_range d) (λ h k. recording_range d) (λ p k. k) p

  pub timeout_range : (p : Participant) → ParticipantInRange n i p → ToInRange n i (Participant.on_timeout (full n) i p)
  timeout_range p =
      timeout_cases (λ p t. ParticipantInRange n i p → ToInRange n i t) (full n) i (λ k. tt) (λ k. unheard_range)
      (λ h k. record { below = pow_pos n; others = has_zero i; part = λ q. k.part (full_more n i h lt k.below q) }) (λ p k. tt) p

  pub answer_range : (p : Participant) (j : ℕ) (a : LogRecord) → j < n → Guard i p j → ParticipantInRange n i p → ToInRange n i (Participant.on_answer (full n) i p j a)
  answer_range p j a l =
      answer_cases (full n) i j (λ p a t. Guard i p j → ParticipantInRange n i p → ToInRange n i t)
      (record {
        none = λ p a g k. tt;
        vote_yes = λ g k. tt;
        vote_abort = λ g k. tt;
        close_yes = λ g k. unheard_range;
        close_abort = λ g k. tt;
        close_commit = λ g k. tt;
        hear_yes = λ h g k.
            terminating_range (insert j h) (insert_lt n j h l k.below) (has_insert_other j i h (λ q. not_inserted i j h g (sym q)) ∙ k.others);
        hear_abort = λ h g k. tt;
        hear_commit = λ h g k. tt;
        record_commit = λ g k. tt;
        record_abort = λ g k. tt;
      })
      p a

module _ (n : ℕ) where
  pub none_heard : 1 ≤ n → CoordinatorHeardInRange n 0
  none_heard h = record { below = pow_pos n; part = λ q. true≢false (sym (has_full 0 n h) ∙ rw (sym q) (has_zero 0)) }

  enters_range : (c : Coordinator) → CoordinatorInRange n c → CoordinatorToInRange n (Coordinator.enters c)
  enters_range c k = enters_cases (CoordinatorToInRange n) c k (λ q. tt) (λ q. tt)

  full_range : (h : ℕ) (c : Coordinator) → h < 2 ^ n → (CoordinatorHeardInRange n h → CoordinatorInRange n c) → CoordinatorInRange n (Coordinator.unless_full (full n) h c)
  full_range h c b f =
      cond_cases (CoordinatorInRange n) (eqb h (full n)) Coordinator.Commit c (λ t. tt) (λ t. f (record { below = b; part = eqb-false h (full n) t }))

  pub reply_yes_range : (i : ℕ) → i < n → (c : Coordinator) → CoordinatorInRange n c → CoordinatorToInRange n (Coordinator.on_reply_yes (full n) i c)
  reply_yes_range i l c =
      reply_yes_cases (λ c t. CoordinatorInRange n c → CoordinatorToInRange n t) (full n) i
      (λ h k. enters_range (Coordinator.unless_full (full n) (insert i h) (Coordinator.Waiting (insert i h)))
      (full_range (insert i h) (Coordinator.Waiting (insert i h)) (insert_lt n i h l k.below) (λ x. x))) (λ c k. k) c

  pub reply_abort_range : (c : Coordinator) → CoordinatorInRange n c → CoordinatorToInRange n (Coordinator.on_reply_abort c)
  reply_abort_range c = reply_abort_cases (λ c t. CoordinatorInRange n c → CoordinatorToInRange n t) (λ h k. tt) (λ c k. k) c

  heard_range : (h : ℕ) (a : LogRecord) → h < 2 ^ n → CoordinatorToInRange n (Coordinator.on_heard (full n) h a)
  heard_range h None b = tt
  heard_range h Yes b = enters_range (Coordinator.unless_full (full n) h (Coordinator.Terminating h)) (full_range h (Coordinator.Terminating h) b (λ x. x))
  heard_range h Abort b = tt
  heard_range h Commit b = tt

  pub coordinator_answer_range : (c : Coordinator) (j : ℕ) (a : LogRecord) → j < n → CoordinatorInRange n c → CoordinatorToInRange n (Coordinator.on_answer (full n) c j a)
  coordinator_answer_range c j a l =
      coordinator_answer_cases (λ c t. CoordinatorInRange n c → CoordinatorToInRange n t) (full n) j a (λ c k. tt)
      (λ h k. heard_range (insert j h) a (insert_lt n j h l k.below)) c
