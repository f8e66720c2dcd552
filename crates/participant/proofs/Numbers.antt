-- The numbers of a participant's states, with their heard masks, and the way back belong together. Assumes nothing.
use mathlib.Core.Path.{◌≡◌, refl, sym, ap₂, ◌∙◌}
use mathlib.Core.Bool.{true}
use Prim.Native.Nat.{ℕ, ◌≤◌}
use lib.Dec.{lit≤}
use Rattle.mask.specs.Mask.{full, within}
use Rattle.mask.proofs.Laws.{none_within}
use Rattle.number.specs.Numbering.{Inverse2}
use Rattle.number.proofs.Laws.{and_left, inverse2}
use Rattle.participant.specs.Types.{Participant, Waiting, VotingYes, Closing, Uncertain, Terminating, RecordingCommit, RecordingAbort, DoneCommit, DoneAbort, Down}
use Rattle.participant.specs.Participant

participant_decoded : (p : Participant) → Participant.of_numbers (Participant.state_number p) (Participant.heard_of p) ≡ p
participant_decoded Waiting = refl
participant_decoded VotingYes = refl
participant_decoded Closing = refl
participant_decoded Uncertain = refl
participant_decoded (Terminating h) = refl
participant_decoded RecordingCommit = refl
participant_decoded RecordingAbort = refl
participant_decoded DoneCommit = refl
participant_decoded DoneAbort = refl
participant_decoded Down = refl

pub participant_numbers : Inverse2 Participant.state_number Participant.heard_of Participant.of_numbers
participant_numbers = inverse2 Participant.state_number Participant.heard_of Participant.of_numbers participant_decoded

-- a participant is the one that its numbers find
pub by_numbers : (p : Participant) (k h : ℕ) → Participant.state_number p ≡ k → Participant.heard_of p ≡ h → p ≡ Participant.of_numbers k h
by_numbers p k h s m = sym (participant_decoded p) ∙ ap₂ Participant.of_numbers s m

pub state_most : (p : Participant) → Participant.state_number p ≤ 9
state_most Waiting = lit≤ tt
state_most VotingYes = lit≤ tt
state_most Closing = lit≤ tt
state_most Uncertain = lit≤ tt
state_most (Terminating h) = lit≤ tt
state_most RecordingCommit = lit≤ tt
state_most RecordingAbort = lit≤ tt
state_most DoneCommit = lit≤ tt
state_most DoneAbort = lit≤ tt
state_most Down = lit≤ tt

-- a heard mask in range has nobody beyond n
pub heard_within : (n own : ℕ) (p : Participant) → Participant.in_range (full n) own p ≡ true → within n (Participant.heard_of p) ≡ true
heard_within n own Waiting q = none_within n
heard_within n own VotingYes q = none_within n
heard_within n own Closing q = none_within n
heard_within n own Uncertain q = none_within n
heard_within n own (Terminating h) q = and_left (within n h) _ q
heard_within n own RecordingCommit q = none_within n
heard_within n own RecordingAbort q = none_within n
heard_within n own DoneCommit q = none_within n
heard_within n own DoneAbort q = none_within n
heard_within n own Down q = none_within n
