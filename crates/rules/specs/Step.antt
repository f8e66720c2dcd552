-- One step of a release, for each of the kinds 02 to 0A. A rule of a party says what is due and what it leads to; here that is applied to the
-- release. Places count from 0, numbers of a step from 1, and party 0 is the coordinator. Assumes nothing.
use Rattle.std.specs.Prelude.{Bool, true, false, cond, ℕ, zero, suc, ◌+◌, get_or, set, Option}
use Rattle.mask.specs.Mask.{has, insert, remove, full}
use Rattle.store.specs.Log.{perform}
use Rattle.participant.specs.Participant
use Rattle.coordinator.specs.Coordinator
use Rattle.rules.specs.State.{participant_of, log_of, message_place, mask_of, in_flight}
use Rattle.rules.specs.Report.{moves, known, coordinator_known, learnt, closes, with_closed}
use Rattle.rules.specs.Types.{LogPair, Logged, Message, Decision, Participant, Transition, Coordinator, Release, Step, Start, Deliver, Copy, Lose, Timeout, Crash, Restart, Outcome, Report}

-- A step not due changes nothing and the run goes on
abbrev pub idle : Release → Report
idle r = record { outcome = Outcome.Idle; closed = false; next = r }

abbrev pub moved : Release → Report
moved r = record { outcome = Outcome.Moved; closed = false; next = r }

-- messages: sending one twice is once

abbrev pub with_mask : Message → ℕ → Release → Release
with_mask m x r =
    record { n = r.n; votes = r.votes; coordinator = r.coordinator; messages = set r.messages (message_place m) x; sites = r.sites; store = r.store; calls = r.calls }

abbrev pub send : Message → ℕ → Release → Release
send m i r = with_mask m (insert i (mask_of r m)) r

abbrev pub take_out : Message → ℕ → Release → Release
take_out m i r = with_mask m (remove i (mask_of r m)) r

abbrev pub send_all : Message → Release → Release
send_all m r = with_mask m (full r.n) r

-- participant i goes to a state, and sends its reply

abbrev pub reply : Option Message → ℕ → Release → Release
reply Option.None i r = r
reply (Option.Some m) i r = send m i r

abbrev pub with_participant : ℕ → Participant → Release → Release
with_participant i p r =
    record { n = r.n; votes = r.votes; coordinator = r.coordinator; messages = r.messages; sites = set r.sites i (record { participant = p }); store = r.store; calls = r.calls }

unfoldable pub participant_to : ℕ → Participant → Option Message → Release → Report
participant_to i p s r =
    record { outcome = learnt (known (participant_of r i)) (known p); closed = false; next = with_participant i p (reply s i r) }

abbrev pub participant_goes : ℕ → Transition Participant → Release → Report
participant_goes i Option.None r = idle r
participant_goes i (Option.Some (p, s)) r = participant_to i p s r

-- the coordinator goes to a state, and sends to all

abbrev pub broadcast : Option Message → Release → Release
broadcast Option.None r = r
broadcast (Option.Some m) r = send_all m r

abbrev pub with_coordinator : Coordinator → Release → Release
with_coordinator c r =
    record { n = r.n; votes = r.votes; coordinator = c; messages = r.messages; sites = r.sites; store = r.store; calls = r.calls }

unfoldable pub coordinator_to : Coordinator → Option Message → Release → Report
coordinator_to c s r =
    record { outcome = learnt (coordinator_known r.coordinator) (coordinator_known c); closed = false; next = with_coordinator c (broadcast s r) }

abbrev pub coordinator_goes : Transition Coordinator → Release → Report
coordinator_goes Option.None r = idle r
coordinator_goes (Option.Some (c, s)) r = coordinator_to c s r

-- a message delivered: requests and decisions to participant i, replies from it to the coordinator. A down party drops it without effect

abbrev pub receive : Message → ℕ → Release → Report
receive Message.Request i r = participant_to i (Participant.on_request (has i r.votes) (participant_of r i)) Option.None r
receive Message.ReplyYes i r = coordinator_goes (Coordinator.on_reply_yes (full r.n) i r.coordinator) r
receive Message.ReplyAbort i r = coordinator_goes (Coordinator.on_reply_abort r.coordinator) r
receive Message.Commit i r = participant_to i (Participant.on_decision Decision.Commit (participant_of r i)) Option.None r
receive Message.Abort i r = participant_to i (Participant.on_decision Decision.Abort (participant_of r i)) Option.None r

-- a due call of party p on log j: the log that it leaves, and one call more

abbrev pub counted : ℕ → Release → Release
counted p r =
    record { n = r.n; votes = r.votes; coordinator = r.coordinator; messages = r.messages; sites = r.sites; store = r.store; calls = set r.calls p (get_or r.calls p 0 + 1) }

abbrev pub with_log : ℕ → LogPair → Release → Release
with_log j l r =
    record { n = r.n; votes = r.votes; coordinator = r.coordinator; messages = r.messages; sites = r.sites; store = record { logs = set r.store.logs j l }; calls = r.calls }

abbrev pub called : ℕ → ℕ → LogPair → Release → Release
called p j l r = with_log j l (counted p r)

-- A call is due when that party has it pending, its Log would not be refused, and the answer is one its state can get. The log changes;
-- where the answer is heard (kind 06, not 07) the party does too. Either way it is reported whether another's log was closed (request 2026-01)

abbrev pub participant_answered : Bool → ℕ → ℕ → Logged → Transition Participant → Release → Report
participant_answered heard i j x Option.None r = idle r
participant_answered true i j x (Option.Some (p, s)) r = with_closed (closes (suc i) j x) (participant_to i p s (called (suc i) j x.log r))
participant_answered false i j x (Option.Some (p, s)) r = with_closed (closes (suc i) j x) (moved (called (suc i) j x.log r))

abbrev pub participant_performed : Bool → ℕ → ℕ → Option Logged → Release → Report
participant_performed heard i j Option.None r = idle r
participant_performed heard i j (Option.Some x) r =
    participant_answered heard i j x (Participant.on_answer (full r.n) i (participant_of r i) j x.answer) r

unfoldable pub participant_calls : Bool → ℕ → ℕ → Release → Report
participant_calls heard i j r = participant_performed heard i j (perform (Participant.pending i (participant_of r i) j) (log_of r j)) r

abbrev pub coordinator_answered : Bool → ℕ → Logged → Transition Coordinator → Release → Report
coordinator_answered heard j x Option.None r = idle r
coordinator_answered true j x (Option.Some (c, s)) r = with_closed (closes 0 j x) (coordinator_to c s (called 0 j x.log r))
coordinator_answered false j x (Option.Some (c, s)) r = with_closed (closes 0 j x) (moved (called 0 j x.log r))

abbrev pub coordinator_performed : Bool → ℕ → Option Logged → Release → Report
coordinator_performed heard j Option.None r = idle r
coordinator_performed heard j (Option.Some x) r =
    coordinator_answered heard j x (Coordinator.on_answer (full r.n) r.coordinator j x.answer) r

unfoldable pub coordinator_calls : Bool → ℕ → Release → Report
coordinator_calls heard j r = coordinator_performed heard j (perform (Coordinator.pending r.coordinator j) (log_of r j)) r

-- by the numbers of party and log: no party has a call on log 0
abbrev pub calls : Bool → ℕ → ℕ → Release → Report
calls heard zero zero r = idle r
calls heard (suc i) zero r = idle r
calls heard zero (suc j) r = coordinator_calls heard j r
calls heard (suc i) (suc j) r = participant_calls heard i j r

-- one step
abbrev pub step : Release → Step → Report
step r Start = coordinator_goes (Coordinator.on_start r.coordinator) r
step r (Deliver m zero) = idle r
step r (Deliver m (suc i)) = cond (in_flight r m i) (receive m i (take_out m i r)) (idle r)
step r (Copy m zero) = idle r
step r (Copy m (suc i)) = cond (in_flight r m i) (receive m i r) (idle r)
step r (Lose m zero) = idle r
step r (Lose m (suc i)) = cond (in_flight r m i) (moved (take_out m i r)) (idle r)
step r (Step.Call p q) = calls true p q r
step r (Step.CallLost p q) = calls false p q r
step r (Timeout zero) = coordinator_goes (Coordinator.on_timeout r.coordinator) r
step r (Timeout (suc i)) = participant_goes i (Participant.on_timeout (full r.n) i (participant_of r i)) r
step r (Crash zero) = coordinator_goes (Coordinator.on_crash r.coordinator) r
step r (Crash (suc i)) = participant_goes i (Participant.on_crash (participant_of r i)) r
step r (Restart zero) = coordinator_goes (Coordinator.on_restart r.coordinator) r
step r (Restart (suc i)) = participant_goes i (Participant.on_restart (participant_of r i)) r

-- A step is due when its rule applies
abbrev pub is_due : Release → Step → Bool
is_due r s = moves (step r s).outcome
