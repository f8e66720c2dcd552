-- Atomic commitment: the problem before the protocol. Participants vote, and parties decide to commit or to abort; what must hold of who decided what,
-- in the field's words. No protocol is named here. That demand 3 gives it stands in specs/History.antt. Assumes nothing.
use Rattle.std.specs.Prelude.{◌≡◌, Bool, true, ℕ, suc, ◌<◌}
use mathlib.Core.List.{List, ◌∷◌, ◌++◌, Memᴰ}
use Rattle.rules.specs.Types.{Decision}

-- what is seen of a run, in turn: a party decides, times out or restarts. Participants have the numbers 1 to n; other parties may decide too
pub data Event : Type 0 where
  Decided : ℕ → Decision → Event
  TimedOut : ℕ → Event
  Restarted : ℕ → Event

abbrev pub Seen : List Event → Event → Type 0
Seen history e = Memᴰ e history

-- among n participants: `votesYes i` is the vote of participant i + 1, and `keepsGoing i` says that it keeps going
pub record AtomicCommitment (n : ℕ) (votesYes : ℕ → Bool) (keepsGoing : ℕ → Type 0) (history : List Event) : Type 0 where
  -- agreement: no two decisions differ, whoever made them
  pub agreement : (p q : ℕ) (d e : Decision) → Seen history (Decided p d) → Seen history (Decided q e) → d ≡ e
  -- a decision is final: who decided never decides otherwise later
  pub final : (before later : List Event) (p : ℕ) (d e : Decision) → history ≡ before ++ (Decided p d ∷ later) → Seen later (Decided p e) → e ≡ d
  -- validity of commit: only if all voted yes
  pub commit_valid : (p : ℕ) → Seen history (Decided p Decision.Commit) → (i : ℕ) → i < n → votesYes i ≡ true
  -- validity of abort: not without a no vote, a timeout or a restart
  pub abort_valid : (p : ℕ) → Seen history (Decided p Decision.Abort) → ((i : ℕ) → i < n → votesYes i ≡ true)
      → ((q : ℕ) → Seen history (TimedOut q) → ⊥) → ((q : ℕ) → Seen history (Restarted q) → ⊥) → ⊥
  -- termination: every participant that keeps going decides
  pub termination : (i : ℕ) → i < n → keepsGoing i → (d : Decision) × Seen history (Decided (suc i) d)
