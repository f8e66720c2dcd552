-- The host's participant is the participant of the whole release: on its numbers the entry hands over what the event leads it to, and the
-- release's step applies just that. Proved in proofs/Agrees.antt. Assumes nothing.
use Rattle.std.specs.Prelude.{◌≡◌, true, List, ℕ, suc, ◌≤◌, ◌<◌, Some}
use Rattle.kind.specs.Kind.{room}
use Rattle.kind.specs.Step.{AllInRange}
use Rattle.mask.specs.Mask.{has, full, within}
use Rattle.store.specs.Log.{perform, places}
use Rattle.participant.specs.Participant
use Rattle.rules.specs.State.{participant_of, log_of, in_flight, fresh}
use Rattle.rules.specs.Step.{take_out, participant_goes, participant_answered, step}
use Rattle.rules.specs.Run.{after}
use Rattle.event.specs.Event.{event_number, detail_number, answer_number, event_in_range}
use Rattle.host.specs.Types.{Kind, Logged, Message, Decision, Participant, Transition, Release, Step, Event}
use Rattle.host.specs.Host.{on_event, returned, left, host_returns, host_leaves}

-- what an event leads participant i to
abbrev pub leads : Release → ℕ → Event → Transition Participant
leads r i e = on_event (full r.n) i (participant_of r i) e

pub record Agrees (r : Release) (i : ℕ) : Type 0 where
  -- the entry, on the numbers of participant i and of the event
  pub returns : (room : ℕ) (e : Event) → event_in_range r.n e ≡ true
      → host_returns room r.n (suc i) (Participant.state_number (participant_of r i)) (Participant.heard_of (participant_of r i)) (event_number e) (detail_number e) (answer_number e)
      ≡ returned room (leads r i e)
  pub leaves : (out : List ℕ) (e : Event) → event_in_range r.n e ≡ true
      → host_leaves out r.n (suc i) (Participant.state_number (participant_of r i)) (Participant.heard_of (participant_of r i)) (event_number e) (detail_number e) (answer_number e)
      ≡ left out (leads r i e)
  -- the release: deliveries of messages in flight, with the message taken out or, of a copy, left
  pub request : in_flight r Message.Request i ≡ true
      → step r (Step.Deliver Message.Request (suc i)) ≡ participant_goes i (leads r i (Event.Request (has i r.votes))) (take_out Message.Request i r)
  pub commit : in_flight r Message.Commit i ≡ true
      → step r (Step.Deliver Message.Commit (suc i)) ≡ participant_goes i (leads r i (Event.Decided Decision.Commit)) (take_out Message.Commit i r)
  pub abort : in_flight r Message.Abort i ≡ true
      → step r (Step.Deliver Message.Abort (suc i)) ≡ participant_goes i (leads r i (Event.Decided Decision.Abort)) (take_out Message.Abort i r)
  pub request_copy : in_flight r Message.Request i ≡ true
      → step r (Step.Copy Message.Request (suc i)) ≡ participant_goes i (leads r i (Event.Request (has i r.votes))) r
  pub commit_copy : in_flight r Message.Commit i ≡ true
      → step r (Step.Copy Message.Commit (suc i)) ≡ participant_goes i (leads r i (Event.Decided Decision.Commit)) r
  pub abort_copy : in_flight r Message.Abort i ≡ true
      → step r (Step.Copy Message.Abort (suc i)) ≡ participant_goes i (leads r i (Event.Decided Decision.Abort)) r
  pub timeout : step r (Step.Timeout (suc i)) ≡ participant_goes i (leads r i Event.Timeout) r
  pub crash : step r (Step.Crash (suc i)) ≡ participant_goes i (leads r i Event.Crash) r
  pub restart : step r (Step.Restart (suc i)) ≡ participant_goes i (leads r i Event.Restart) r
  -- a call that the store performs, with its answer heard
  pub answer : (j : ℕ) (x : Logged) → perform (Participant.pending i (participant_of r i) j) (log_of r j) ≡ Some x
      → step r (Step.Call (suc i) (suc j)) ≡ participant_answered true i j x (leads r i (Event.Answer (suc j) x.answer)) r

-- for every participant in range
abbrev pub HostAgrees : Type 0
HostAgrees = (r : Release) (i : ℕ) → r.n ≤ room Kind.WideHeader → i < r.n → Participant.in_range (full r.n) i (participant_of r i) ≡ true → Agrees r i

-- so for every one that a run reaches
abbrev pub HostAgreesReached : Type 0
HostAgreesReached =
    (n votes : ℕ) → n ≤ room Kind.WideHeader → within n votes ≡ true → (steps : List Step) → AllInRange n steps → (i : ℕ) → i < n
    → Agrees (after (fresh places n votes) steps) i
