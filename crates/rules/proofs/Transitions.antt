-- Each rule of a party leads to what the invariant asks. Assumes nothing.
use mathlib.Core.Path.{◌≡◌, sym, ◌∙◌}
use mathlib.Core.Logic.{◌≢◌}
use mathlib.Core.Bool.{Bool, false, cond}
use Prim.Native.Nat.{ℕ}
use lib.Dec.{eqb}
use borrow.Author.Tests.{eqb-true}
use Rattle.std.specs.Prelude.{Option}
use Rattle.mask.specs.Mask.{has, insert, full}
use Rattle.mask.proofs.Laws.{has_zero, not_inserted, has_insert_other}
use Rattle.message.specs.Message.{to}
use Rattle.participant.specs.Participant
use Rattle.coordinator.specs.Coordinator
use Rattle.rules.proofs.Cases.{cond_cases, answer_cases, request_cases, decision_cases, timeout_cases, crash_cases, restart_cases, start_cases, reply_yes_cases, reply_abort_cases, coordinator_timeout_cases, coordinator_answer_cases, coordinator_crash_cases, coordinator_restart_cases, enters_cases}
use Rattle.rules.specs.Demand.{EveryYes, SomeAbort}
use Rattle.rules.specs.Types.{LogRecord, None, Yes, Abort, Commit, Decision, Participant, VotingYes, Closing, Terminating, RecordingCommit, Transition, Coordinator}
use Rattle.rules.proofs.FirstRecords.{Heard, heard_none, heard_insert, heard_full}
use Rattle.rules.proofs.Invariant.{Knows, Ends, CoordinatorKnows}
use Rattle.rules.proofs.Updates.{SentFits, BroadcastFits}
use Rattle.rules.proofs.Ranges.{Guard}
use Rattle.rules.proofs.Calls.{Says}

-- participant i may be in state p, where e is the last record of its log
pub record Stands (n : ℕ) (F : ℕ → LogRecord) (i : ℕ) (e : LogRecord) (p : Participant) : Type 0 where
  pub knows : Knows n F i p
  pub ends : Ends p e

abbrev pub Fits : ℕ → (ℕ → LogRecord) → ℕ → LogRecord → Transition Participant → Type 0
Fits n F i e Option.None = Unit {0}
Fits n F i e (Option.Some (p, s)) = Stands n F i e p × SentFits n F i s

module _ (n : ℕ) (F : ℕ → LogRecord) (i : ℕ) (e : LogRecord) where
  stands_closing : Stands n F i e Closing
  stands_closing = record { knows = tt; ends = tt }

  stands_terminating : (h : ℕ) → F i ≡ Yes → has i h ≡ false → Heard n F h → Stands n F i e (Participant.terminating (full n) i h)
  stands_terminating h y o k =
      cond_cases (Stands n F i e) (eqb (insert i h) (full n)) RecordingCommit (Terminating h)
      (λ t. record { knows = heard_full (heard_insert i y k) (eqb-true (insert i h) (full n) t); ends = tt })
      (λ t. record { knows = record { own = y; others = o; heard = k }; ends = tt })

  stands_unheard : F i ≡ Yes → Stands n F i e (Participant.terminating (full n) i 0)
  stands_unheard y = stands_terminating 0 y (has_zero i) (heard_none n F)

  stands_voted : (vote : Bool) → e ≢ Commit → Stands n F i e (cond vote VotingYes Closing)
  stands_voted vote h = cond_cases (Stands n F i e) vote VotingYes Closing (λ t. record { knows = tt; ends = h }) (λ t. stands_closing)

  pub request_stands : (vote : Bool) (p : Participant) → Stands n F i e p → Stands n F i e (Participant.on_request vote p)
  request_stands vote p = request_cases (λ p p'. Stands n F i e p → Stands n F i e p') vote (λ h. stands_voted vote h.ends) (λ p h. h) p

  -- what a decision delivered claims
  abbrev pub DecisionTells : Decision → Type 0
  DecisionTells Decision.Commit = EveryYes n F
  DecisionTells Decision.Abort = SomeAbort n F

  stands_recording : (d : Decision) → DecisionTells d → F i ≡ Yes → Stands n F i e (Participant.recording d)
  stands_recording Decision.Commit t y = record { knows = t; ends = tt }
  stands_recording Decision.Abort t y = record { knows = record { own = y; some = t }; ends = tt }

  pub decision_stands : (d : Decision) → DecisionTells d → (p : Participant) → Stands n F i e p → Stands n F i e (Participant.on_decision d p)
  decision_stands d t p = decision_cases (λ p p'. Stands n F i e p → Stands n F i e p') d (λ h. stands_recording d t h.knows) (λ m h. stands_recording d t h.knows.own) (λ p h. h) p

  pub timeout_fits : (p : Participant) → Knows n F i p → Fits n F i e (Participant.on_timeout (full n) i p)
  timeout_fits p =
      timeout_cases (λ p t. Knows n F i p → Fits n F i e t) (full n) i (λ k. (stands_closing, tt)) (λ k. (stands_unheard k, tt))
      (λ h k. (record { knows = record { own = k.own; others = has_zero i; heard = heard_none n F }; ends = tt }, tt)) (λ p k. tt) p

  pub crash_fits : (p : Participant) → Fits n F i e (Participant.on_crash p)
  crash_fits p = crash_cases (λ p t. Fits n F i e t) (λ p. (record { knows = tt; ends = tt }, tt)) tt p

  pub restart_fits : (p : Participant) → Fits n F i e (Participant.on_restart p)
  restart_fits p = restart_cases (λ p t. Fits n F i e t) (stands_closing, tt) (λ p. tt) p

  -- an own call: what log j says is what log i says
  own : (j : ℕ) (a : LogRecord) → j ≡ i → Says n F j a → Says n F i a
  own j a q s = rw q at s

  -- where log j is one's own, its last record is e
  pub answer_fits : (p : Participant) (j : ℕ) (a : LogRecord) → (j ≡ i → e ≡ a) → Guard i p j → Says n F j a → Knows n F i p
      → Fits n F i e (Participant.on_answer (full n) i p j a)
  answer_fits p j a =
      answer_cases (full n) i j (λ p a t. (j ≡ i → e ≡ a) → Guard i p j → Says n F j a → Knows n F i p → Fits n F i e t)
      (record {
        none = λ p a q g s k. tt;
        vote_yes = λ q g s k. (record { knows = own j Yes g s; ends = tt }, own j Yes g s);
        vote_abort = λ q g s k. (record { knows = s; ends = q g }, s);
        close_yes = λ q g s k. (stands_unheard (own j Yes g s), tt);
        close_abort = λ q g s k. (record { knows = s; ends = q g }, s);
        close_commit = λ q g s k. (record { knows = s; ends = q g }, tt);
        hear_yes = λ h q g s k.
            (stands_terminating (insert j h) k.own (has_insert_other j i h (λ x. not_inserted i j h g (sym x)) ∙ k.others) (heard_insert j s k.heard), tt);
        hear_abort = λ h q g s k. (record { knows = record { own = k.own; some = s }; ends = tt }, tt);
        hear_commit = λ h q g s k. (record { knows = s; ends = tt }, tt);
        record_commit = λ q g s k. (record { knows = s; ends = q g }, tt);
        record_abort = λ q g s k. (record { knows = s; ends = q g }, tt);
      })
      p a

-- the coordinator

abbrev pub CoordinatorFits : ℕ → (ℕ → LogRecord) → Transition Coordinator → Type 0
CoordinatorFits n F Option.None = Unit {0}
CoordinatorFits n F (Option.Some (c, s)) = CoordinatorKnows n F c × BroadcastFits n F s

module _ (n : ℕ) (F : ℕ → LogRecord) where
  to_fits : (c : Coordinator) → CoordinatorKnows n F c → CoordinatorFits n F (to c)
  to_fits c k = (k, λ i l. tt)

  -- a decision that is entered is sent
  enters_fits : (c : Coordinator) → CoordinatorKnows n F c → CoordinatorFits n F (Coordinator.enters c)
  enters_fits c k =
      enters_cases (CoordinatorFits n F) c (to_fits c k)
      (λ q. let y : EveryYes n F = rw q at k in (y, λ i l. y))
      (λ q. let a : SomeAbort n F = rw q at k in (a, λ i l. a))

  full_knows : (h : ℕ) (c : Coordinator) → CoordinatorKnows n F c → Heard n F h → CoordinatorKnows n F (Coordinator.unless_full (full n) h c)
  full_knows h c k m =
      cond_cases (CoordinatorKnows n F) (eqb h (full n)) Coordinator.Commit c (λ t. heard_full m (eqb-true h (full n) t)) (λ t. k)

  pub start_fits : (c : Coordinator) → CoordinatorFits n F (Coordinator.on_start c)
  start_fits c = start_cases (CoordinatorFits n F) (heard_none n F, λ i l. tt) tt c

  pub reply_yes_fits : (i : ℕ) (c : Coordinator) → F i ≡ Yes → CoordinatorKnows n F c → CoordinatorFits n F (Coordinator.on_reply_yes (full n) i c)
  reply_yes_fits i c y =
      reply_yes_cases (λ c t. CoordinatorKnows n F c → CoordinatorFits n F t) (full n) i
      (λ h k. enters_fits (Coordinator.unless_full (full n) (insert i h) (Coordinator.Waiting (insert i h)))
      (full_knows (insert i h) (Coordinator.Waiting (insert i h)) (heard_insert i y k) (heard_insert i y k))) to_fits c

  pub reply_abort_fits : (c : Coordinator) → SomeAbort n F → CoordinatorKnows n F c → CoordinatorFits n F (Coordinator.on_reply_abort c)
  reply_abort_fits c s = reply_abort_cases (λ c t. CoordinatorKnows n F c → CoordinatorFits n F t) (λ h k. enters_fits Coordinator.Abort s) to_fits c

  pub coordinator_timeout_fits : (c : Coordinator) → CoordinatorFits n F (Coordinator.on_timeout c)
  coordinator_timeout_fits c = coordinator_timeout_cases (CoordinatorFits n F) (to_fits (Coordinator.Terminating 0) (heard_none n F)) tt c

  pub coordinator_crash_fits : (c : Coordinator) → CoordinatorFits n F (Coordinator.on_crash c)
  coordinator_crash_fits c = coordinator_crash_cases (λ c t. CoordinatorFits n F t) (λ c. to_fits Coordinator.Down tt) tt c

  pub coordinator_restart_fits : (c : Coordinator) → CoordinatorFits n F (Coordinator.on_restart c)
  coordinator_restart_fits c = coordinator_restart_cases (CoordinatorFits n F) (to_fits Coordinator.Retired tt) tt c

  heard_fits : (j h : ℕ) (a : LogRecord) → Says n F j a → Heard n F h → CoordinatorFits n F (Coordinator.on_heard (full n) (insert j h) a)
  heard_fits j h None s k = tt
  heard_fits j h Yes s k =
      enters_fits (Coordinator.unless_full (full n) (insert j h) (Coordinator.Terminating (insert j h)))
      (full_knows (insert j h) (Coordinator.Terminating (insert j h)) (heard_insert j s k) (heard_insert j s k))
  heard_fits j h Abort s k = enters_fits Coordinator.Abort s
  heard_fits j h Commit s k = enters_fits Coordinator.Commit s

  pub coordinator_answer_fits : (c : Coordinator) (j : ℕ) (a : LogRecord) → Says n F j a → CoordinatorKnows n F c → CoordinatorFits n F (Coordinator.on_answer (full n) c j a)
  coordinator_answer_fits c j a s =
      coordinator_answer_cases (λ c t. CoordinatorKnows n F c → CoordinatorFits n F t) (full n) j a (λ c k. tt) (λ h k. heard_fits j h a s k) c
