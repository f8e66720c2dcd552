-- The host's participant is the participant of the whole release. Assumes nothing.
use mathlib.Core.Path.{◌≡◌, refl, sym, ap, ap₂, ◌∙◌}
use mathlib.Core.Bool.{true}
use Prim.Native.Nat.{ℕ, suc, ◌-◌, ◌≤◌, ◌<◌}
use native.Mathlib.Omega.{arith}
use borrow.Author.Tests.{le-leb}
use Rattle.std.specs.Prelude.{Option, Some, None}
use Rattle.number.proofs.Laws.{and_true, are_numbers_lem, are_numbers3_lem}
use Rattle.mask.specs.Mask.{full}
use Rattle.store.specs.Log.{perform, places}
use Rattle.participant.specs.Participant
use Rattle.participant.proofs.Numbers.{participant_numbers}
use Rattle.rules.specs.State.{participant_of, log_of, fresh}
use Rattle.rules.specs.Step.{participant_answered, participant_calls, step}
use Rattle.rules.specs.Run.{after}
use Rattle.rules.proofs.Agreement.{Later, later, fresh_inv}
use Rattle.rules.proofs.Reached.{reached_in_range}
use Rattle.event.specs.Event.{event_number, detail_number, answer_number, event_of, event_in_range}
use Rattle.event.proofs.Numbers.{event_numbers}
use Rattle.kind.specs.Kind.{room}
use Rattle.host.specs.Types.{Kind, LogPair, Call, Logged, Participant, Transition, Release, Step, Event}
use Rattle.host.specs.Host.{answers, answered, on_event, host_in_range, host_transition, returned, left}
use Rattle.host.specs.Agrees.{leads, HostAgrees, HostAgreesReached}

-- the numbers of a participant and of an event are in range, and lead to what those lead to

module _ (n i : ℕ) (p : Participant) (e : Event) where
  numbers_in_range_lem : n ≤ room Kind.WideHeader → i < n → Participant.in_range (full n) i p ≡ true → event_in_range n e ≡ true
      → host_in_range n (suc i) (Participant.state_number p) (Participant.heard_of p) (event_number e) (detail_number e) (answer_number e) ≡ true
  numbers_in_range_lem l h q g =
      and_true _ _ (and_true _ _ (le-leb 1 n (omega arith)) (le-leb n (room Kind.WideHeader) l))
      (and_true _ _ (and_true _ _ (le-leb 1 (suc i) (omega arith)) (le-leb (suc i) n h))
      (and_true _ _ participant
      (and_true _ _ (are_numbers3_lem event_number detail_number answer_number event_of event_numbers e) (ap (event_in_range n) (event_numbers.decoded e) ∙ g))))
    where
      participant : Participant.numbers_in_range (full n) (suc i - 1) (Participant.state_number p) (Participant.heard_of p) ≡ true
      participant =
          and_true _ _ (are_numbers_lem Participant.state_number Participant.heard_of Participant.of_numbers participant_numbers p)
          (ap₂ (λ (k : ℕ) (x : Participant). Participant.in_range (full n) k x) (let z : suc i - 1 ≡ i = omega arith in z) (participant_numbers.decoded p) ∙ q)

  numbers_lead : host_transition n (suc i) (Participant.state_number p) (Participant.heard_of p) (event_number e) (detail_number e) (answer_number e) ≡ on_event (full n) i p e
  numbers_lead = ap₂ (λ (k : ℕ) (x : Participant). on_event (full n) k x (event_of (event_number e) (detail_number e) (answer_number e))) (let z : suc i - 1 ≡ i = omega arith in z) (participant_numbers.decoded p) ∙ ap (on_event (full n) i p) (event_numbers.decoded e)

-- a call that the store performs is pending
abbrev Pending : Option Call → Option Logged → Type 0
Pending c None = Unit {0}
Pending c (Some x) = (t : Transition Participant) → answers c t ≡ t

performs : (c : Option Call) (l : LogPair) → Pending c (perform c l)
performs None l = tt
performs (Some c) l = done (perform (Some c) l)
  where
    done : (x : Option Logged) → Pending (Some c) x
    done None = tt
    done (Some y) = λ t. refl

call_agrees : (r : Release) (i j : ℕ) (x : Logged) → perform (Participant.pending i (participant_of r i) j) (log_of r j) ≡ Some x
    → step r (Step.Call (suc i) (suc j)) ≡ participant_answered true i j x (leads r i (Event.Answer (suc j) x.answer)) r
unfolding participant_calls
call_agrees r i j x q =
    rw q
    (ap (λ (t : Transition Participant). participant_answered true i j x t r)
    (sym (pending (Participant.on_answer (full r.n) i (participant_of r i) j x.answer)) ∙ ap (λ (k : ℕ). answered (full r.n) i (participant_of r i) k x.answer) place))
  where
    place : j ≡ suc j - 1
    place = omega arith

    pending : (t : Transition Participant) → answers (Participant.pending i (participant_of r i) j) t ≡ t
    pending = rw q at (performs (Participant.pending i (participant_of r i) j) (log_of r j))

pub host_agrees : HostAgrees
host_agrees r i l h q =
    record {
      returns = λ room e g.
          rw (numbers_in_range_lem r.n i (participant_of r i) e l h q g) (ap (returned room) (numbers_lead r.n i (participant_of r i) e));
      leaves = λ out e g.
          rw (numbers_in_range_lem r.n i (participant_of r i) e l h q g) (ap (left out) (numbers_lead r.n i (participant_of r i) e));
      request = λ f. rw f refl;
      commit = λ f. rw f refl;
      abort = λ f. rw f refl;
      request_copy = λ f. rw f refl;
      commit_copy = λ f. rw f refl;
      abort_copy = λ f. rw f refl;
      timeout = refl;
      crash = refl;
      restart = refl;
      answer = λ j x p. call_agrees r i j x p;
    }

pub host_agrees_reached : HostAgreesReached
host_agrees_reached n votes fits w steps h i l =
    host_agrees (after (fresh places n votes) steps) i (rw c.same_n fits) (rw c.same_n l)
    ((reached_in_range places n votes (omega arith) (omega arith) w steps h).participants i (rw c.same_n l))
  where
    c : Later (fresh places n votes) (after (fresh places n votes) steps)
    c = later (fresh places n votes) steps h (fresh_inv places n votes (omega arith))
