-- A step changes one party alone, reports what that party comes to know, and touches a log or a count only where it is a store call. For every
-- release, reached by a run or not, and every step. Proved in proofs/OneParty.antt. Assumes nothing.
use Rattle.std.specs.Prelude.{◌≡◌, ◌≢◌, Bool, true, false, ℕ, zero, suc, ◌≤◌, length}
use Rattle.rules.specs.State.{participant_of}
use Rattle.rules.specs.Report.{known, coordinator_known, learnt}
use Rattle.rules.specs.Step.{step, is_due}
use Rattle.rules.specs.Types.{Message, Release, Step, Start, Deliver, Copy, Lose, Timeout, Crash, Restart, Outcome}

-- No step changes n, the votes, or a party other than the one that starts, gets the message, calls, times out, crashes or restarts

abbrev pub receiver : Message → ℕ → ℕ
receiver Message.Request p = p
receiver Message.ReplyYes p = 0
receiver Message.ReplyAbort p = 0
receiver Message.Commit p = p
receiver Message.Abort p = p

abbrev pub party_of : Step → ℕ
party_of Start = 0
party_of (Deliver m p) = receiver m p
party_of (Copy m p) = receiver m p
party_of (Lose m p) = receiver m p
party_of (Step.Call p q) = p
party_of (Step.CallLost p q) = p
party_of (Timeout p) = p
party_of (Crash p) = p
party_of (Restart p) = p

pub record OthersStay (p : ℕ) (r t : Release) : Type 0 where
  pub same_n : t.n ≡ r.n
  pub same_votes : t.votes ≡ r.votes
  pub coordinator : p ≢ 0 → t.coordinator ≡ r.coordinator
  pub participants : (i : ℕ) → p ≢ suc i → participant_of t i ≡ participant_of r i

abbrev pub OnePartyMoves : Type 0
OnePartyMoves = (r : Release) (s : Step) → OthersStay (party_of s) r (step r s).next

-- A due step reports what its party comes to know by it: 2 and 3 mark the step in which a party comes to know its decision

abbrev pub knows_of : Release → ℕ → Outcome
knows_of r zero = coordinator_known r.coordinator
knows_of r (suc i) = known (participant_of r i)

abbrev pub ReportedAsWritten : Type 0
ReportedAsWritten =
    (r : Release) (s : Step) → party_of s ≤ length r.sites → is_due r s ≡ true
    → (step r s).outcome ≡ learnt (knows_of r (party_of s)) (knows_of (step r s).next (party_of s))

-- No step but a store call touches a log or a count: no start, delivery, copy, loss, timeout, crash or restart

abbrev pub makes_call : Step → Bool
makes_call Start = false
makes_call (Deliver m q) = false
makes_call (Copy m q) = false
makes_call (Lose m q) = false
makes_call (Step.Call p q) = true
makes_call (Step.CallLost p q) = true
makes_call (Timeout p) = false
makes_call (Crash p) = false
makes_call (Restart p) = false

abbrev pub LogsStay : Type 0
LogsStay = (r : Release) (s : Step) → makes_call s ≡ false → ((step r s).next.store ≡ r.store) × ((step r s).next.calls ≡ r.calls)
