-- A step changes its own party alone, reports what that party comes to know, and touches a log or a count only where it is a store call. Assumes nothing.
use mathlib.Core.Path.{◌≡◌, refl, sym, ap, ◌∙◌}
use mathlib.Core.Bool.{Bool, true, false, cond, true≢false}
use mathlib.Core.List.{List, [], ◌∷◌}
use Prim.Native.Nat.{ℕ, zero, suc, ◌≤◌}
use lib.ListN.{length}
use Rattle.std.specs.Prelude.{Option}
use Rattle.mask.specs.Mask.{full}
use Rattle.participant.specs.Participant
use Rattle.coordinator.specs.Coordinator
use Rattle.rules.specs.State.{participant_of, in_flight}
use Rattle.rules.specs.Report.{moves, known, coordinator_known, learnt}
use Rattle.rules.specs.Step.{take_out, idle, moved, called, participant_to, participant_goes, coordinator_to, coordinator_goes, receive, calls, step}
use Rattle.rules.specs.Run.{after}
use Rattle.rules.specs.OneParty.{receiver, party_of, OthersStay, OnePartyMoves, knows_of, ReportedAsWritten, makes_call, LogsStay}
use Rattle.rules.specs.Types.{Logged, Message, Participant, Transition, Coordinator, Release, Step, Start, Deliver, Copy, Lose, Timeout, Crash, Restart, Outcome, Report}
use Rattle.rules.proofs.Due.{known_moves, coordinator_moves, same_learnt}
use Rattle.rules.proofs.Actions.{Only, only_none, participant_only, coordinator_only, placed, participant_calls_lem, coordinator_calls_lem}

goes_only : (i : ℕ) (t : Transition Participant) (r : Release) → Only (suc i) r (participant_goes i t r).next
goes_only i Option.None r = only_none (suc i) r
goes_only i (Option.Some (p, s)) r = participant_only i p s r

coordinator_goes_only : (t : Transition Coordinator) (r : Release) → Only 0 r (coordinator_goes t r).next
coordinator_goes_only Option.None r = only_none 0 r
coordinator_goes_only (Option.Some (c, s)) r = coordinator_only c s r

receive_only : (m : Message) (i : ℕ) (r : Release) → Only (receiver m (suc i)) r (receive m i r).next
receive_only Message.Request i r = participant_only i _ Option.None r
receive_only Message.ReplyYes i r = coordinator_goes_only (Coordinator.on_reply_yes (full r.n) i r.coordinator) r
receive_only Message.ReplyAbort i r = coordinator_goes_only (Coordinator.on_reply_abort r.coordinator) r
receive_only Message.Commit i r = participant_only i _ Option.None r
receive_only Message.Abort i r = participant_only i _ Option.None r

-- a message that is taken out changes no party, log or count
after_taking : (p : ℕ) (m : Message) (i : ℕ) (r t : Release) → Only p (take_out m i r) t → Only p r t
after_taking p m i r t o =
    record {
      others = record { same_n = o.others.same_n; same_votes = o.others.same_votes; coordinator = o.others.coordinator; participants = o.others.participants };
      store = o.store;
      calls = o.calls;
    }

flight_only : (b : Bool) (p : ℕ) (t : Report) (r : Release) → Only p r t.next → Only p r (cond b t (idle r)).next
flight_only true p t r o = o
flight_only false p t r o = only_none p r

-- every step but a store call
step_only : (r : Release) (s : Step) → makes_call s ≡ false → Only (party_of s) r (step r s).next
step_only r Start h = coordinator_goes_only (Coordinator.on_start r.coordinator) r
step_only r (Deliver m zero) h = only_none (receiver m zero) r
step_only r (Deliver m (suc i)) h = flight_only (in_flight r m i) (receiver m (suc i)) _ r (after_taking (receiver m (suc i)) m i r _ (receive_only m i (take_out m i r)))
step_only r (Copy m zero) h = only_none (receiver m zero) r
step_only r (Copy m (suc i)) h = flight_only (in_flight r m i) (receiver m (suc i)) _ r (receive_only m i r)
step_only r (Lose m zero) h = only_none (receiver m zero) r
step_only r (Lose m (suc i)) h = flight_only (in_flight r m i) (receiver m (suc i)) _ r (after_taking (receiver m (suc i)) m i r _ (only_none (receiver m (suc i)) (take_out m i r)))
step_only r (Step.Call p q) h = absurd (true≢false h)
step_only r (Step.CallLost p q) h = absurd (true≢false h)
step_only r (Timeout zero) h = coordinator_goes_only (Coordinator.on_timeout r.coordinator) r
step_only r (Timeout (suc i)) h = goes_only i (Participant.on_timeout (full r.n) i (participant_of r i)) r
step_only r (Crash zero) h = coordinator_goes_only (Coordinator.on_crash r.coordinator) r
step_only r (Crash (suc i)) h = goes_only i (Participant.on_crash (participant_of r i)) r
step_only r (Restart zero) h = coordinator_goes_only (Coordinator.on_restart r.coordinator) r
step_only r (Restart (suc i)) h = goes_only i (Participant.on_restart (participant_of r i)) r

pub logs_stay : LogsStay
logs_stay r s h = ((step_only r s h).store, (step_only r s h).calls)

-- a call that was made changes logs and counts, and no party beside the caller's transition
called_others : (p j : ℕ) (x : Logged) (r t : Release) → OthersStay p (called p j x.log r) t → OthersStay p r t
called_others p j x r t o = record { same_n = o.same_n; same_votes = o.same_votes; coordinator = o.coordinator; participants = o.participants }

abbrev CallOthers : ℕ → Release → (Bool → Report) → Type 0
CallOthers p r f = OthersStay p r (f true).next × OthersStay p r (f false).next

call_others : (r : Release) (p q : ℕ) → CallOthers p r (λ heard. calls heard p q r)
call_others r zero zero = ((only_none 0 r).others, (only_none 0 r).others)
call_others r (suc i) zero = ((only_none (suc i) r).others, (only_none (suc i) r).others)
call_others r zero (suc j) =
    coordinator_calls_lem (CallOthers 0 r) r j ((only_none 0 r).others, (only_none 0 r).others) (λ x. ((only_none 0 r).others, (only_none 0 r).others))
    (λ x c s q. (called_others 0 j x r _ (coordinator_only c s (called 0 j x.log r)).others, called_others 0 j x r _ (only_none 0 (called 0 j x.log r)).others))
call_others r (suc i) (suc j) =
    participant_calls_lem (CallOthers (suc i) r) r i j ((only_none (suc i) r).others, (only_none (suc i) r).others) (λ x. ((only_none (suc i) r).others, (only_none (suc i) r).others))
    (λ x p s q. (
      called_others (suc i) j x r _ (participant_only i p s (called (suc i) j x.log r)).others,
      called_others (suc i) j x r _ (only_none (suc i) (called (suc i) j x.log r)).others,
    ))

pub one_party_moves : OnePartyMoves
one_party_moves r Start = (step_only r Start refl).others
one_party_moves r (Deliver m p) = (step_only r (Deliver m p) refl).others
one_party_moves r (Copy m p) = (step_only r (Copy m p) refl).others
one_party_moves r (Lose m p) = (step_only r (Lose m p) refl).others
one_party_moves r (Step.Call p q) = (call_others r p q).0
one_party_moves r (Step.CallLost p q) = (call_others r p q).1
one_party_moves r (Timeout p) = (step_only r (Timeout p) refl).others
one_party_moves r (Crash p) = (step_only r (Crash p) refl).others
one_party_moves r (Restart p) = (step_only r (Restart p) refl).others

-- so no list of steps changes n or the votes
pub header_kept : (r : Release) (steps : List Step) → ((after r steps).n ≡ r.n) × ((after r steps).votes ≡ r.votes)
header_kept r [] = (refl, refl)
header_kept r (s ∷ ss) =
    let rest = header_kept (step r s).next ss in
    let same = one_party_moves r s in (rest.0 ∙ same.same_n, rest.1 ∙ same.same_votes)

-- What a due step reports

abbrev Reports : ℕ → Release → Report → Type 0
Reports p r t = t.outcome ≡ learnt (knows_of r p) (knows_of t.next p)

-- what a party knew already is not reported again
moved_reports : (p : ℕ) (r : Release) → Outcome.Moved ≡ learnt (knows_of r p) (knows_of r p)
moved_reports zero r = sym (same_learnt (coordinator_known r.coordinator) (coordinator_moves r.coordinator))
moved_reports (suc i) r = sym (same_learnt (known (participant_of r i)) (known_moves (participant_of r i)))

participant_reports : (i : ℕ) (p : Participant) (s : Option Message) (r : Release) → suc i ≤ length r.sites → Reports (suc i) r (participant_to i p s r)
unfolding participant_to
participant_reports i p Option.None r l = ap (λ (x : Participant). learnt (known (participant_of r i)) (known x)) (sym (placed i p r l))
participant_reports i p (Option.Some m) r l = ap (λ (x : Participant). learnt (known (participant_of r i)) (known x)) (sym (placed i p r l))

coordinator_reports : (c : Coordinator) (s : Option Message) (r : Release) → Reports 0 r (coordinator_to c s r)
unfolding coordinator_to
coordinator_reports c Option.None r = refl
coordinator_reports c (Option.Some m) r = refl

-- where it is due
abbrev DueReports : ℕ → Release → Report → Type 0
DueReports p r t = moves t.outcome ≡ true → Reports p r t

idle_reports : (p : ℕ) (r : Release) → DueReports p r (idle r)
idle_reports p r d = absurd (true≢false (sym d))

goes_reports : (i : ℕ) (t : Transition Participant) (r : Release) → suc i ≤ length r.sites → DueReports (suc i) r (participant_goes i t r)
goes_reports i Option.None r l = idle_reports (suc i) r
goes_reports i (Option.Some (p, s)) r l = λ d. participant_reports i p s r l

coordinator_goes_reports : (t : Transition Coordinator) (r : Release) → DueReports 0 r (coordinator_goes t r)
coordinator_goes_reports Option.None r = idle_reports 0 r
coordinator_goes_reports (Option.Some (c, s)) r = λ d. coordinator_reports c s r

receive_reports : (m : Message) (i : ℕ) (r : Release) → receiver m (suc i) ≤ length r.sites → DueReports (receiver m (suc i)) r (receive m i r)
receive_reports Message.Request i r l = λ d. participant_reports i _ Option.None r l
receive_reports Message.ReplyYes i r l = coordinator_goes_reports (Coordinator.on_reply_yes (full r.n) i r.coordinator) r
receive_reports Message.ReplyAbort i r l = coordinator_goes_reports (Coordinator.on_reply_abort r.coordinator) r
receive_reports Message.Commit i r l = λ d. participant_reports i _ Option.None r l
receive_reports Message.Abort i r l = λ d. participant_reports i _ Option.None r l

-- a message that is taken out makes no difference to what a party knows
taken_reports : (p : ℕ) (m : Message) (i : ℕ) (r : Release) (t : Report) → DueReports p (take_out m i r) t → DueReports p r t
taken_reports zero m i r t f = f
taken_reports (suc k) m i r t f = f

flight_reports : (b : Bool) (p : ℕ) (t : Report) (r : Release) → DueReports p r t → DueReports p r (cond b t (idle r))
flight_reports true p t r f = f
flight_reports false p t r f = idle_reports p r

abbrev CallReports : ℕ → Release → (Bool → Report) → Type 0
CallReports p r f = DueReports p r (f true) × DueReports p r (f false)

call_reports : (r : Release) (p q : ℕ) → p ≤ length r.sites → CallReports p r (λ heard. calls heard p q r)
call_reports r zero zero l = (idle_reports 0 r, idle_reports 0 r)
call_reports r (suc i) zero l = (idle_reports (suc i) r, idle_reports (suc i) r)
call_reports r zero (suc j) l =
    coordinator_calls_lem (CallReports 0 r) r j (idle_reports 0 r, idle_reports 0 r) (λ x. (idle_reports 0 r, idle_reports 0 r))
    (λ x c s q. (λ d. coordinator_reports c s (called 0 j x.log r), λ d. moved_reports 0 r))
call_reports r (suc i) (suc j) l =
    participant_calls_lem (CallReports (suc i) r) r i j (idle_reports (suc i) r, idle_reports (suc i) r) (λ x. (idle_reports (suc i) r, idle_reports (suc i) r))
    (λ x p s q. (λ d. participant_reports i p s (called (suc i) j x.log r) l, λ d. moved_reports (suc i) r))

pub reported_as_written : ReportedAsWritten
reported_as_written r Start l = coordinator_goes_reports (Coordinator.on_start r.coordinator) r
reported_as_written r (Deliver m zero) l = idle_reports (receiver m 0) r
reported_as_written r (Deliver m (suc i)) l =
    flight_reports (in_flight r m i) (receiver m (suc i)) (receive m i (take_out m i r)) r
    (taken_reports (receiver m (suc i)) m i r (receive m i (take_out m i r)) (receive_reports m i (take_out m i r) l))
reported_as_written r (Copy m zero) l = idle_reports (receiver m 0) r
reported_as_written r (Copy m (suc i)) l = flight_reports (in_flight r m i) (receiver m (suc i)) (receive m i r) r (receive_reports m i r l)
reported_as_written r (Lose m zero) l = idle_reports (receiver m 0) r
reported_as_written r (Lose m (suc i)) l =
    flight_reports (in_flight r m i) (receiver m (suc i)) (moved (take_out m i r)) r
    (taken_reports (receiver m (suc i)) m i r (moved (take_out m i r)) (λ d. moved_reports (receiver m (suc i)) (take_out m i r)))
reported_as_written r (Step.Call p q) l = (call_reports r p q l).0
reported_as_written r (Step.CallLost p q) l = (call_reports r p q l).1
reported_as_written r (Timeout zero) l = coordinator_goes_reports (Coordinator.on_timeout r.coordinator) r
reported_as_written r (Timeout (suc i)) l = goes_reports i (Participant.on_timeout (full r.n) i (participant_of r i)) r l
reported_as_written r (Crash zero) l = coordinator_goes_reports (Coordinator.on_crash r.coordinator) r
reported_as_written r (Crash (suc i)) l = goes_reports i (Participant.on_crash (participant_of r i)) r l
reported_as_written r (Restart zero) l = coordinator_goes_reports (Coordinator.on_restart r.coordinator) r
reported_as_written r (Restart (suc i)) l = goes_reports i (Participant.on_restart (participant_of r i)) r l
