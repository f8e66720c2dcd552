-- A transition that a rule gives is due. Assumes nothing.
use mathlib.Core.Path.{◌≡◌, refl}
use mathlib.Core.Bool.{Bool, true, false, false≢true}
use Prim.Native.Nat.{ℕ}
use Rattle.std.specs.Prelude.{Option}
use Rattle.coordinator.specs.Coordinator
use Rattle.rules.proofs.Cases.{enters_cases}
use Rattle.rules.specs.State.{participant_of}
use Rattle.rules.specs.Report.{moves, known, coordinator_known, learnt}
use Rattle.rules.specs.Step.{participant_to, participant_goes, coordinator_to, coordinator_goes}
use Rattle.rules.specs.Types.{Participant, Waiting, VotingYes, Closing, Uncertain, Terminating, RecordingCommit, RecordingAbort, DoneCommit, DoneAbort, Down, Message, Transition, Coordinator, Outcome, Release}

pub known_moves : (p : Participant) → moves (known p) ≡ true
known_moves Waiting = refl
known_moves VotingYes = refl
known_moves Closing = refl
known_moves Uncertain = refl
known_moves (Terminating h) = refl
known_moves RecordingCommit = refl
known_moves RecordingAbort = refl
known_moves DoneCommit = refl
known_moves DoneAbort = refl
known_moves Down = refl

pub coordinator_moves : (c : Coordinator) → moves (coordinator_known c) ≡ true
coordinator_moves Coordinator.Idle = refl
coordinator_moves (Coordinator.Waiting h) = refl
coordinator_moves (Coordinator.Terminating h) = refl
coordinator_moves Coordinator.Commit = refl
coordinator_moves Coordinator.Abort = refl
coordinator_moves Coordinator.Down = refl
coordinator_moves Coordinator.Retired = refl

learnt_moves : (old new : Outcome) → moves new ≡ true → moves (learnt old new) ≡ true
learnt_moves Outcome.Idle new h = h
learnt_moves Outcome.Moved new h = h
learnt_moves Outcome.Commit new h = refl
learnt_moves Outcome.Abort new h = refl

-- what a party knew already is not reported again
pub same_learnt : (o : Outcome) → moves o ≡ true → learnt o o ≡ Outcome.Moved
same_learnt Outcome.Idle h = absurd (false≢true h)
same_learnt Outcome.Moved h = refl
same_learnt Outcome.Commit h = refl
same_learnt Outcome.Abort h = refl

pub participant_due : (i : ℕ) (p : Participant) (s : Option Message) (r : Release) → moves (participant_to i p s r).outcome ≡ true
unfolding participant_to
participant_due i p s r = learnt_moves (known (participant_of r i)) (known p) (known_moves p)

pub coordinator_due : (c : Coordinator) (s : Option Message) (r : Release) → moves (coordinator_to c s r).outcome ≡ true
unfolding coordinator_to
coordinator_due c s r = learnt_moves (coordinator_known r.coordinator) (coordinator_known c) (coordinator_moves c)

abbrev pub IsTo : Transition Participant → Type 0
IsTo Option.None = ⊥
IsTo (Option.Some (p, s)) = Unit {0}

pub goes_due : (i : ℕ) (t : Transition Participant) (r : Release) → IsTo t → moves (participant_goes i t r).outcome ≡ true
goes_due i Option.None r h = absurd h
goes_due i (Option.Some (p, s)) r h = participant_due i p s r

-- whether a transition leads anywhere

abbrev pub leads : Transition Participant → Bool
leads Option.None = false
leads (Option.Some (p, s)) = true

abbrev pub coordinator_leads : Transition Coordinator → Bool
coordinator_leads Option.None = false
coordinator_leads (Option.Some (c, s)) = true

pub goes_moves : (i : ℕ) (t : Transition Participant) (r : Release) → moves (participant_goes i t r).outcome ≡ leads t
goes_moves i Option.None r = refl
goes_moves i (Option.Some (p, s)) r = participant_due i p s r

pub coordinator_goes_moves : (t : Transition Coordinator) (r : Release) → moves (coordinator_goes t r).outcome ≡ coordinator_leads t
coordinator_goes_moves Option.None r = refl
coordinator_goes_moves (Option.Some (c, s)) r = coordinator_due c s r

-- what the coordinator enters
pub enters_leads : (c : Coordinator) → coordinator_leads (Coordinator.enters c) ≡ true
enters_leads c = enters_cases (λ t. coordinator_leads t ≡ true) c refl (λ q. refl) (λ q. refl)
