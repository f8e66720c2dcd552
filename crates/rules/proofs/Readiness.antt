-- A participant that is up and holds no decision has a timeout or a call of its own due. Assumes nothing.
use mathlib.Core.Path.{◌≡◌, refl}
use mathlib.Core.Logic.{◌≢◌, ◌⊎◌, inl, inr}
use mathlib.Core.Bool.{true}
use Prim.Native.Nat.{ℕ, suc, ◌+◌, ◌≤◌, ◌<◌}
use native.Mathlib.Omega.{arith}
use lib.Dec.{eqb}
use borrow.Author.Tests.{eq-eqb}
use Rattle.std.specs.Prelude.{Option}
use Rattle.mask.specs.Mask.{full}
use Rattle.store.specs.Log.{perform}
use Rattle.participant.specs.Participant
use Rattle.rules.specs.State.{participant_of, log_of, first_of, last_of}
use Rattle.rules.specs.Report.{moves}
use Rattle.rules.specs.Step.{called, participant_answered, participant_performed, participant_calls}
use Rattle.rules.specs.Demand.{EveryYes, SomeAbort, Up, Holds, Ready}
use Rattle.rules.specs.Types.{LogRecord, None, Yes, Abort, Commit, Call, Logged, Participant, Waiting, VotingYes, Closing, Uncertain, Terminating, RecordingCommit, RecordingAbort, DoneCommit, DoneAbort, Down, Transition, Release}
use Rattle.rules.proofs.FirstRecords.{excluded}
use Rattle.rules.proofs.Invariant.{Knows, Ends, Allowed, Inv}
use Rattle.rules.proofs.Rank.{rank, own_left}
use Rattle.rules.proofs.Due.{IsTo, participant_due, goes_due}

-- the own call answers in a way that the state can get

abbrev AnswerDue : ℕ → ℕ → Participant → Option Logged → Type 0
AnswerDue n i p Option.None = ⊥
AnswerDue n i p (Option.Some x) = IsTo (Participant.on_answer (full n) i p i x.answer)

module _ (n : ℕ) (F : ℕ → LogRecord) (i : ℕ) where
  vote_due : (first last : LogRecord) → Allowed n F first last → last ≢ Commit → AnswerDue n i VotingYes (perform (Option.Some (Call.LogOnce Yes)) (record { first = first; last = last }))
  vote_due None last h k = tt
  vote_due Yes None h k = absurd h
  vote_due Yes Yes h k = tt
  vote_due Yes Abort h k = tt
  vote_due Yes Commit h k = absurd (k refl)
  vote_due Abort None h k = absurd h
  vote_due Abort Yes h k = absurd h
  vote_due Abort Abort h k = tt
  vote_due Abort Commit h k = absurd h
  vote_due Commit last h k = absurd h

  close_due : (first last : LogRecord) → Allowed n F first last → AnswerDue n i Closing (perform (Option.Some (Call.LogOnce Abort)) (record { first = first; last = last }))
  close_due None last h = tt
  close_due Yes None h = absurd h
  close_due Yes Yes h = tt
  close_due Yes Abort h = tt
  close_due Yes Commit h = tt
  close_due Abort None h = absurd h
  close_due Abort Yes h = absurd h
  close_due Abort Abort h = tt
  close_due Abort Commit h = absurd h
  close_due Commit last h = absurd h

  -- with a yes as the first record
  commit_due : (first last : LogRecord) → Allowed n F Yes last → EveryYes n F → AnswerDue n i RecordingCommit (perform (Option.Some (Call.Log Commit)) (record { first = first; last = last }))
  commit_due first None h y = absurd h
  commit_due first Yes h y = tt
  commit_due first Abort h y = absurd (excluded y h)
  commit_due first Commit h y = tt

  abort_due : (first last : LogRecord) → Allowed n F Yes last → SomeAbort n F → AnswerDue n i RecordingAbort (perform (Option.Some (Call.Log Abort)) (record { first = first; last = last }))
  abort_due first None h y = absurd h
  abort_due first Yes h y = tt
  abort_due first Abort h y = tt
  abort_due first Commit h y = absurd (excluded h y)

own_test : (i : ℕ) → eqb i i ≡ true
own_test i = eq-eqb i i refl

answered_due : (r : Release) (i j : ℕ) (x : Logged) (t : Transition Participant) → IsTo t → moves (participant_answered true i j x t r).outcome ≡ true
answered_due r i j x Option.None h = absurd h
answered_due r i j x (Option.Some (p, s)) h = participant_due i p s (called (suc i) j x.log r)

performed_due : (r : Release) (i : ℕ) (s : Option Logged) → AnswerDue r.n i (participant_of r i) s → moves (participant_performed true i i s r).outcome ≡ true
performed_due r i Option.None h = absurd h
performed_due r i (Option.Some x) h = answered_due r i i x (Participant.on_answer (full r.n) i (participant_of r i) i x.answer) h

-- in state p
abbrev ReadyIn : Release → ℕ → Participant → Type 0
ReadyIn r i p = IsTo (Participant.on_timeout (full r.n) i p) ⊎ AnswerDue r.n i p (perform (Participant.pending i p i) (log_of r i))

abbrev pub Undecided : Participant → Type 0
Undecided Waiting = Unit {0}
Undecided VotingYes = Unit {0}
Undecided Closing = Unit {0}
Undecided Uncertain = Unit {0}
Undecided (Terminating h) = Unit {0}
Undecided RecordingCommit = Unit {0}
Undecided RecordingAbort = Unit {0}
Undecided DoneCommit = ⊥
Undecided DoneAbort = ⊥
Undecided Down = ⊥

ready_in : (r : Release) (i : ℕ) (p : Participant) → i < r.n → Knows r.n (first_of r) i p → Ends p (last_of r i)
    → Allowed r.n (first_of r) (first_of r i) (last_of r i) → Undecided p → ReadyIn r i p
ready_in r i Waiting l k e a u = inl tt
ready_in r i VotingYes l k e a u = inr (rw (own_test i) (vote_due r.n (first_of r) i (first_of r i) (last_of r i) a e))
ready_in r i Closing l k e a u = inr (rw (own_test i) (close_due r.n (first_of r) i (first_of r i) (last_of r i) a))
ready_in r i Uncertain l k e a u = inl tt
ready_in r i (Terminating h) l k e a u = inl tt
ready_in r i RecordingCommit l k e a u =
    inr (rw (own_test i) (commit_due r.n (first_of r) i (first_of r i) (last_of r i) (rw (k.each i l) at a) k))
ready_in r i RecordingAbort l k e a u =
    inr (rw (own_test i) (abort_due r.n (first_of r) i (first_of r i) (last_of r i) (rw k.own at a) k.some))
ready_in r i DoneCommit l k e a u = absurd u
ready_in r i DoneAbort l k e a u = absurd u
ready_in r i Down l k e a u = absurd u

-- a participant that is up has yet to decide, or holds its decision

pub undecided_or_holds : (r : Release) (i : ℕ) (p : Participant) → participant_of r i ≡ p → Ends p (last_of r i) → p ≢ Down → Undecided p ⊎ Holds r i
undecided_or_holds r i Waiting q e u = inl tt
undecided_or_holds r i VotingYes q e u = inl tt
undecided_or_holds r i Closing q e u = inl tt
undecided_or_holds r i Uncertain q e u = inl tt
undecided_or_holds r i (Terminating h) q e u = inl tt
undecided_or_holds r i RecordingCommit q e u = inl tt
undecided_or_holds r i RecordingAbort q e u = inl tt
undecided_or_holds r i DoneCommit q e u = inr (inl (record { state = q; last = e }))
undecided_or_holds r i DoneAbort q e u = inr (inr (record { state = q; last = e }))
undecided_or_holds r i Down q e u = absurd (u refl)

-- the rank is 0 just where a decision is held, and n + 1 at most while up

pub undecided_rank : (n i : ℕ) (F : ℕ → LogRecord) (p : Participant) → i < n → Knows n F i p → Undecided p → 1 ≤ rank n p
undecided_rank n i F Waiting l k u = omega arith
undecided_rank n i F VotingYes l k u = omega arith
undecided_rank n i F Closing l k u = omega arith
undecided_rank n i F Uncertain l k u = omega arith
undecided_rank n i F (Terminating h) l k u = own_left n i l F h k
undecided_rank n i F RecordingCommit l k u = omega arith
undecided_rank n i F RecordingAbort l k u = omega arith
undecided_rank n i F DoneCommit l k u = absurd u
undecided_rank n i F DoneAbort l k u = absurd u
undecided_rank n i F Down l k u = absurd u

pub up_rank : (n : ℕ) (p : Participant) → p ≢ Down → rank n p ≤ n + 1
up_rank n Waiting u = omega arith
up_rank n VotingYes u = omega arith
up_rank n Closing u = omega arith
up_rank n Uncertain u = omega arith
up_rank n (Terminating h) u = omega arith
up_rank n RecordingCommit u = omega arith
up_rank n RecordingAbort u = omega arith
up_rank n DoneCommit u = omega arith
up_rank n DoneAbort u = omega arith
up_rank n Down u = absurd (u refl)

pub rank_up : (n : ℕ) (p : Participant) → rank n p ≤ n + 1 → p ≢ Down
rank_up n p h q = let e : rank n Down ≤ n + 1 = rw q at h in omega arith

pub holds_rank : (r : Release) (i n : ℕ) → Holds r i → rank n (participant_of r i) ≡ 0
holds_rank r i n (inl h) = rw h.state refl
holds_rank r i n (inr h) = rw h.state refl

-- a timeout or a call of its own is due
pub ready : (r : Release) (i : ℕ) → i < r.n → Inv r → Up r i → (Holds r i → ⊥) → Ready r i
unfolding participant_calls
ready r i l v u none = go (undecided_or_holds r i (participant_of r i) refl (v.ends i l) u)
  where
    due : ReadyIn r i (participant_of r i) → Ready r i
    due (inl t) = inl (goes_due i (Participant.on_timeout (full r.n) i (participant_of r i)) r t)
    due (inr a) = inr (i, l, performed_due r i (perform (Participant.pending i (participant_of r i) i) (log_of r i)) a)

    go : Undecided (participant_of r i) ⊎ Holds r i → Ready r i
    go (inl w) = due (ready_in r i (participant_of r i) l (v.knows i l) (v.ends i l) (v.pairs i l) w)
    go (inr h) = absurd (none h)
