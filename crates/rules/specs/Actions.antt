-- What each kind of step changes, and what stays: document 01, "Messages and schedule bytes" and "Whole lists and cuts". For every release, reached
-- by a run or not, and every step, in range or not. Which party a step changes stands in specs/OneParty.antt. Proved in proofs/Actions.antt.
-- Assumes nothing.
use Rattle.std.specs.Prelude.{◌≡◌, ◌≢◌, ◌⊎◌, true, false, ℕ, zero, suc, ◌+◌, ◌≤◌, ◌<◌, length, Option}
use Rattle.mask.specs.Mask.{has, full}
use Rattle.store.specs.Log.{perform}
use Rattle.participant.specs.Participant
use Rattle.coordinator.specs.Coordinator
use Rattle.rules.specs.State.{participant_of, log_of, calls_of, message_place, mask_of, in_flight}
use Rattle.rules.specs.Report.{moves, step_byte}
use Rattle.rules.specs.Step.{idle, step, is_due}
use Rattle.rules.specs.Types.{Call, Logged, Message, Decision, Participant, Closing, Down, Coordinator, Release, Step, Start, Deliver, Copy, Lose, Timeout, Crash, Restart, Outcome, Report}

-- A step not due changes nothing and the run goes on

abbrev pub NotDueStays : Type 0
NotDueStays = (r : Release) (s : Step) → is_due r s ≡ false → step r s ≡ idle r

-- Messages in flight, 03 to 05

pub record SameButMessages (r t : Release) : Type 0 where
  pub same_n : t.n ≡ r.n
  pub same_votes : t.votes ≡ r.votes
  pub coordinator : t.coordinator ≡ r.coordinator
  pub sites : t.sites ≡ r.sites
  pub store : t.store ≡ r.store
  pub calls : t.calls ≡ r.calls

-- every message but the one of type m of participant i is in flight as before
abbrev pub OthersInFlight : Message → ℕ → Release → Release → Type 0
OthersInFlight m i r t = (x : Message) (k : ℕ) → (x ≢ m) ⊎ (k ≢ i) → in_flight t x k ≡ in_flight r x k

-- lose: takes away that message and nothing else, and reports moved
pub record Lost (m : Message) (i : ℕ) (r : Release) (t : Report) : Type 0 where
  pub gone : in_flight t.next m i ≡ false
  pub others : OthersInFlight m i r t.next
  pub all_else : SameButMessages r t.next
  pub reported : step_byte t ≡ 1

-- deliver a copy, the message stays: the copy does and reports what the delivery does, which takes the message
pub record CopyLikeDelivery (m : Message) (i : ℕ) (delivered copied : Report) : Type 0 where
  pub taken : in_flight delivered.next m i ≡ false
  pub is_in_flight : in_flight copied.next m i ≡ true
  pub others : OthersInFlight m i delivered.next copied.next
  pub all_else : SameButMessages delivered.next copied.next
  pub reported : step_byte copied ≡ step_byte delivered

abbrev pub MessagesAsWritten : Type 0
MessagesAsWritten =
    (r : Release) (m : Message) (i : ℕ) → in_flight r m i ≡ true
    → Lost m i r (step r (Lose m (suc i))) × CopyLikeDelivery m i (step r (Deliver m (suc i))) (step r (Copy m (suc i)))

-- Store calls, 06 and 07

-- the call that party p has pending on the log at place j
abbrev pub pending_call : Release → ℕ → ℕ → Option Call
pending_call r zero j = Coordinator.pending r.coordinator j
pending_call r (suc i) j = Participant.pending i (participant_of r i) j

-- A due call of party p on log q leaves its log as its rule says, no junk and nothing between; no other log; and p's count one higher
pub record CallMade (r : Release) (p q : ℕ) (t : Release) : Type 0 where
  -- log q stands at place q - 1: there is no call on log 0
  pub place : ℕ
  pub on : q ≡ suc place
  pub left : Logged
  pub performed : perform (pending_call r p place) (log_of r place) ≡ Option.Some left
  pub log : place < length r.store.logs → log_of t place ≡ left.log
  pub logs : (k : ℕ) → k ≢ place → log_of t k ≡ log_of r k
  pub count : p < length r.calls → calls_of t p ≡ calls_of r p + 1
  pub counts : (o : ℕ) → o ≢ p → calls_of t o ≡ calls_of r o

-- answer lost: the log changes, the party does not, nor does anything else; the step reports moved
pub record AnswerLost (r : Release) (t : Report) : Type 0 where
  pub same_n : t.next.n ≡ r.n
  pub same_votes : t.next.votes ≡ r.votes
  pub coordinator : t.next.coordinator ≡ r.coordinator
  pub sites : t.next.sites ≡ r.sites
  pub messages : t.next.messages ≡ r.messages
  pub reported : t.outcome ≡ Outcome.Moved

pub record CallAsWritten (r : Release) (p q : ℕ) (heard lost : Report) : Type 0 where
  -- with its answer heard it is due just as with its answer lost, leaves the same store and the same counts, and closes another's log alike; so what
  -- `made` says holds of both
  pub due_alike : moves heard.outcome ≡ moves lost.outcome
  pub store : heard.next.store ≡ lost.next.store
  pub calls : heard.next.calls ≡ lost.next.calls
  pub closed : heard.closed ≡ lost.closed
  pub made : moves lost.outcome ≡ true → CallMade r p q lost.next
  pub answer_lost : moves lost.outcome ≡ true → AnswerLost r lost

abbrev pub CallsAsWritten : Type 0
CallsAsWritten = (r : Release) (p q : ℕ) → CallAsWritten r p q (step r (Step.Call p q)) (step r (Step.CallLost p q))

-- A party goes where its rule leads, and what the rule sends is in flight then: a participant's message its own, the coordinator's to all. No other
-- message comes or goes

pub record ParticipantGoesTo (i : ℕ) (p : Participant) (x : Option Message) (r t : Release) : Type 0 where
  pub state : i < length r.sites → participant_of t i ≡ p
  pub sent : (m : Message) → x ≡ Option.Some m → message_place m < length r.messages → in_flight t m i ≡ true
  pub others : (m : Message) → x ≡ Option.Some m → OthersInFlight m i r t
  pub nothing : x ≡ Option.None → t.messages ≡ r.messages

pub record CoordinatorGoesTo (c : Coordinator) (x : Option Message) (r t : Release) : Type 0 where
  pub state : t.coordinator ≡ c
  pub sent : (m : Message) → x ≡ Option.Some m → message_place m < length r.messages → (i : ℕ) → i < r.n → in_flight t m i ≡ true
  pub nobody_else : (m : Message) → x ≡ Option.Some m → message_place m < length r.messages → (i : ℕ) → r.n ≤ i → in_flight t m i ≡ false
  pub others : (m k : Message) → x ≡ Option.Some m → k ≢ m → mask_of t k ≡ mask_of r k
  pub nothing : x ≡ Option.None → t.messages ≡ r.messages

-- of each kind but crash and restart, which stand below. For deliveries it is said of the copy, which does what the delivery does
pub record GoesByRule (r : Release) : Type 0 where
  pub start : (c : Coordinator) (x : Option Message) → Coordinator.on_start r.coordinator ≡ Option.Some (c, x) → CoordinatorGoesTo c x r (step r Start).next
  pub request : (i : ℕ) → in_flight r Message.Request i ≡ true
      → ParticipantGoesTo i (Participant.on_request (has i r.votes) (participant_of r i)) Option.None r (step r (Copy Message.Request (suc i))).next
  pub reply_yes : (i : ℕ) (c : Coordinator) (x : Option Message) → in_flight r Message.ReplyYes i ≡ true
      → Coordinator.on_reply_yes (full r.n) i r.coordinator ≡ Option.Some (c, x) → CoordinatorGoesTo c x r (step r (Copy Message.ReplyYes (suc i))).next
  pub reply_abort : (i : ℕ) (c : Coordinator) (x : Option Message) → in_flight r Message.ReplyAbort i ≡ true
      → Coordinator.on_reply_abort r.coordinator ≡ Option.Some (c, x) → CoordinatorGoesTo c x r (step r (Copy Message.ReplyAbort (suc i))).next
  pub commit : (i : ℕ) → in_flight r Message.Commit i ≡ true
      → ParticipantGoesTo i (Participant.on_decision Decision.Commit (participant_of r i)) Option.None r (step r (Copy Message.Commit (suc i))).next
  pub abort : (i : ℕ) → in_flight r Message.Abort i ≡ true
      → ParticipantGoesTo i (Participant.on_decision Decision.Abort (participant_of r i)) Option.None r (step r (Copy Message.Abort (suc i))).next
  pub answer : (i j : ℕ) (l : Logged) (p : Participant) (x : Option Message) → perform (pending_call r (suc i) j) (log_of r j) ≡ Option.Some l
      → Participant.on_answer (full r.n) i (participant_of r i) j l.answer ≡ Option.Some (p, x) → ParticipantGoesTo i p x r (step r (Step.Call (suc i) (suc j))).next
  pub coordinator_answer : (j : ℕ) (l : Logged) (c : Coordinator) (x : Option Message) → perform (pending_call r 0 j) (log_of r j) ≡ Option.Some l
      → Coordinator.on_answer (full r.n) r.coordinator j l.answer ≡ Option.Some (c, x) → CoordinatorGoesTo c x r (step r (Step.Call 0 (suc j))).next
  pub timeout : (i : ℕ) (p : Participant) (x : Option Message) → Participant.on_timeout (full r.n) i (participant_of r i) ≡ Option.Some (p, x)
      → ParticipantGoesTo i p x r (step r (Timeout (suc i))).next
  pub coordinator_timeout : (c : Coordinator) (x : Option Message) → Coordinator.on_timeout r.coordinator ≡ Option.Some (c, x)
      → CoordinatorGoesTo c x r (step r (Timeout 0)).next

abbrev pub GoAsRuled : Type 0
GoAsRuled = (r : Release) → GoesByRule r

-- Crashes and restarts, 09 and 0A: who crashes is down then; a due restart leads a participant to closing and the coordinator to retired; no message
-- is sent or taken

pub record RestartAsWritten (r : Release) : Type 0 where
  pub crash : (i : ℕ) → i < length r.sites → participant_of (step r (Crash (suc i))).next i ≡ Down
  pub restart : (i : ℕ) → i < length r.sites → is_due r (Restart (suc i)) ≡ true → participant_of (step r (Restart (suc i))).next i ≡ Closing
  pub coordinator_crash : (step r (Crash 0)).next.coordinator ≡ Coordinator.Down
  pub coordinator_restart : is_due r (Restart 0) ≡ true → (step r (Restart 0)).next.coordinator ≡ Coordinator.Retired
  pub crash_messages : (p : ℕ) → (step r (Crash p)).next.messages ≡ r.messages
  pub restart_messages : (p : ℕ) → (step r (Restart p)).next.messages ≡ r.messages

abbrev pub RestartsAsWritten : Type 0
RestartsAsWritten = (r : Release) → RestartAsWritten r
