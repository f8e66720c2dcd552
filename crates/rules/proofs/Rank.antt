-- How many answered calls a participant still makes, at most, before it holds a decision. Assumes nothing.
use mathlib.Core.Path.{◌≡◌, refl}
use mathlib.Core.Bool.{Bool, false}
use Prim.Native.Nat.{ℕ, suc, ◌+◌, ◌-◌, ◌≤◌, ◌<◌}
use native.Mathlib.Omega.{arith}
use native.Mathlib.Nat.{le_refl}
use lib.Dec.{eqb}
use Rattle.std.specs.Prelude.{Option}
use Rattle.mask.specs.Mask.{has, insert, full}
use Rattle.mask.proofs.Laws.{size, size_le, size_insert, bit_of_has, not_member}
use Rattle.participant.specs.Participant
use Rattle.rules.proofs.Cases.{cond_cases, answer_cases, request_cases, decision_cases, timeout_cases, restart_cases}
use Rattle.rules.specs.Types.{LogRecord, Decision, Participant, Waiting, VotingYes, Closing, Uncertain, Terminating, RecordingCommit, RecordingAbort, DoneCommit, DoneAbort, Down, Transition}
use Rattle.rules.proofs.FirstRecords.{Termination}
use Rattle.rules.proofs.Invariant.{Knows}
use Rattle.rules.proofs.Ranges.{Guard}

-- 0 just where a decision is held, n + 1 at most while up
abbrev pub rank : ℕ → Participant → ℕ
rank n Waiting = n + 1
rank n VotingYes = n + 1
rank n Closing = n + 1
rank n Uncertain = n
rank n (Terminating h) = n - size n h
rank n RecordingCommit = 1
rank n RecordingAbort = 1
rank n DoneCommit = 0
rank n DoneAbort = 0
rank n Down = n + 2

-- a transition that leaves at most k calls
abbrev pub Within : ℕ → ℕ → Transition Participant → Type 0
Within n k Option.None = Unit {0}
Within n k (Option.Some (p, s)) = rank n p ≤ k

module _ (n i : ℕ) (lt : i < n) where
  -- one's own log is never heard, so a participant that terminates has a call left
  pub own_left : (F : ℕ → LogRecord) (h : ℕ) → Termination n F i h → 1 ≤ rank n (Terminating h)
  own_left F h k = omega (arith, size_insert n i h lt (bit_of_has i h k.others), size_le n (insert i h))

  -- two participants that are not heard
  two_left : (F : ℕ → LogRecord) (j h : ℕ) → j < n → has j (insert i h) ≡ false → Termination n F i h → size n h + 2 ≤ n
  two_left F j h l g k =
      let a = size_insert n i h lt (bit_of_has i h k.others) in
      let b = size_insert n j (insert i h) l (bit_of_has j (insert i h) g) in
      omega (arith, size_le n (insert j (insert i h)))

  terminating_rank : (h k : ℕ) → 1 ≤ k → n - size n h ≤ k → rank n (Participant.terminating (full n) i h) ≤ k
  terminating_rank h k a b = cond_cases (λ p. rank n p ≤ k) (eqb (insert i h) (full n)) RecordingCommit (Terminating h) (λ t. a) (λ t. b)

  unheard_rank : rank n (Participant.terminating (full n) i 0) ≤ n
  unheard_rank = terminating_rank 0 n (omega arith) (omega arith)

  pub request_rank : (vote : Bool) (p : Participant) → rank n (Participant.on_request vote p) ≤ rank n p
  request_rank vote p =
      request_cases (λ p p'. rank n p' ≤ rank n p) vote (cond_cases (λ p. rank n p ≤ n + 1) vote VotingYes Closing (λ t. omega arith) (λ t. omega arith))
      (λ p. le_refl (rank n p)) p

  pub recording_rank : (d : Decision) → rank n (Participant.recording d) ≤ 1
  recording_rank Decision.Commit = omega arith
  recording_rank Decision.Abort = omega arith

  pub decision_rank : (F : ℕ → LogRecord) (d : Decision) (p : Participant) → Knows n F i p → rank n (Participant.on_decision d p) ≤ rank n p
  decision_rank F d p =
      decision_cases (λ p p'. Knows n F i p → rank n p' ≤ rank n p) d (λ k. omega (arith, recording_rank d))
      (λ h k. omega (arith, recording_rank d, own_left F h k)) (λ p k. le_refl (rank n p)) p

  pub timeout_rank : (p : Participant) → ((h : ℕ) → p ≡ Terminating h → ⊥) → Within n (rank n p) (Participant.on_timeout (full n) i p)
  timeout_rank p =
      timeout_cases (λ p t. ((h : ℕ) → p ≡ Terminating h → ⊥) → Within n (rank n p) t) (full n) i (λ f. le_refl (n + 1)) (λ f. unheard_rank) (λ h f. absurd (f h refl)) (λ p f. tt) p

  pub restart_rank : (p : Participant) → Within n (rank n p) (Participant.on_restart p)
  restart_rank p = restart_cases (λ p t. Within n (rank n p) t) (omega arith) (λ p. tt) p

  -- an answered call leaves one less
  pub answer_rank : (F : ℕ → LogRecord) (p : Participant) (j k : ℕ) (a : LogRecord) → j < n → Guard i p j → Knows n F i p → rank n p ≡ suc k
      → Within n k (Participant.on_answer (full n) i p j a)
  answer_rank F p j k a l =
      answer_cases (full n) i j (λ p a t. Guard i p j → Knows n F i p → rank n p ≡ suc k → Within n k t)
      (record {
        none = λ p a g s q. tt;
        vote_yes = λ g s q. omega arith;
        vote_abort = λ g s q. omega arith;
        close_yes = λ g s q. omega (arith, unheard_rank);
        close_abort = λ g s q. omega arith;
        close_commit = λ g s q. omega arith;
        hear_yes = λ h g s q.
            terminating_rank (insert j h) k (omega (arith, two_left F j h l g s)) (omega (arith, size_insert n j h l (bit_of_has j h (not_member i j h g))));
        hear_abort = λ h g s q. omega (arith, two_left F j h l g s);
        hear_commit = λ h g s q. omega (arith, two_left F j h l g s);
        record_commit = λ g s q. omega arith;
        record_abort = λ g s q. omega arith;
      })
      p a

  -- a guarded call has a rank to lose
  pub guarded_rank : (F : ℕ → LogRecord) (p : Participant) (j : ℕ) → j < n → Guard i p j → Knows n F i p → 1 ≤ rank n p
  guarded_rank F Waiting j l g s = absurd g
  guarded_rank F VotingYes j l g s = omega arith
  guarded_rank F Closing j l g s = omega arith
  guarded_rank F Uncertain j l g s = absurd g
  guarded_rank F (Terminating h) j l g s = let t = two_left F j h l g s in omega arith
  guarded_rank F RecordingCommit j l g s = omega arith
  guarded_rank F RecordingAbort j l g s = omega arith
  guarded_rank F DoneCommit j l g s = absurd g
  guarded_rank F DoneAbort j l g s = absurd g
  guarded_rank F Down j l g s = absurd g
