-- Event 2 in state 3, and since request 2026-02 in state 4: what the entry returns and leaves, by document 01's numbers. Proved in
-- proofs/Decision.antt. Assumes nothing.
use Rattle.std.specs.Prelude.{◌≡◌, ◌⊎◌, true, List, [], ◌∷◌, ℕ, ◌≤◌, length}
use Rattle.std.proofs.lemmas.List.Edits.{sets}
use Rattle.participant.specs.Decision.{recording_number}
use Rattle.event.specs.Event.{decision_number}
use Rattle.host.specs.Host.{host_in_range, host_returns, host_leaves}
use Rattle.host.specs.Types.{Decision}

-- state 5 or 6, nobody heard, nothing sent
pub record HostTakes (out : List ℕ) (n own s h : ℕ) (d : Decision) : Type 0 where
  pub returns : host_returns (length out) n own s h 2 (decision_number d) 0 ≡ 0
  pub leaves : host_leaves out n own s h 2 (decision_number d) 0 ≡ sets out 0 (recording_number d ∷ 0 ∷ 0 ∷ 0 ∷ 0 ∷ 0 ∷ [])

-- for all numbers in range and every buffer of six bytes or more
abbrev pub HostTakesDecision : Type 0
HostTakesDecision =
    (out : List ℕ) (n own s h : ℕ) (d : Decision) → (s ≡ 3) ⊎ (s ≡ 4) → host_in_range n own s h 2 (decision_number d) 0 ≡ true → 6 ≤ length out
    → HostTakes out n own s h d
