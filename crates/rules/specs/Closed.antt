-- Who closed the log: when a step has the word `closed`, in the words of request 2026-01, and what bytes can occur. Proved in proofs/Closed.antt and
-- proofs/Bytes.antt. Assumes nothing.
use Rattle.std.specs.Prelude.{◌≡◌, ◌↔◌, ◌≢◌, ◌⊎◌, true, ℕ, suc, ◌≤◌, length}
use Rattle.kind.specs.Step.{in_range}
use Rattle.rules.specs.State.{first_of}
use Rattle.rules.specs.Report.{step_byte, outcome_in, closed_in}
use Rattle.rules.specs.Step.{step, is_due}
use Rattle.rules.specs.Types.{None, Abort, Release, Step, Report}

-- Step s, from r to t, is a due call of a party on a log that is not its own, empty before and abort afterwards. Log q stands at place q - 1 and is
-- participant q's own; the coordinator, party 0, has none
pub record ClosesAnother (r : Release) (s : Step) (t : Release) : Type 0 where
  pub party : ℕ
  pub place : ℕ
  pub call : (s ≡ Step.Call party (suc place)) ⊎ (s ≡ Step.CallLost party (suc place))
  pub due : is_due r s ≡ true
  pub another : party ≢ suc place
  pub before : first_of r place ≡ None
  pub after : first_of t place ≡ Abort

-- for every release with room for its n logs, and every step in range
abbrev pub ClosedAsWritten : Type 0
ClosedAsWritten =
    (r : Release) (s : Step) → r.n ≤ length r.store.logs → in_range r.n s ≡ true → ((step r s).closed ≡ true) ↔ ClosesAnother r s (step r s).next

-- 7 for `abort closed`, by kind 06, and 5 for `moved closed`, by kind 07; 4 and 6 never occur
pub record ClosedBytes (r : Release) (s : Step) : Type 0 where
  pub heard : (p q : ℕ) → s ≡ Step.Call p q → (step r s).closed ≡ true → step_byte (step r s) ≡ 7
  pub lost : (p q : ℕ) → s ≡ Step.CallLost p q → (step r s).closed ≡ true → step_byte (step r s) ≡ 5
  pub never_4 : step_byte (step r s) ≢ 4
  pub never_6 : step_byte (step r s) ≢ 6

abbrev pub ClosedBytesHold : Type 0
ClosedBytesHold = (r : Release) (s : Step) → ClosedBytes r s

-- a byte says what was reported, and nothing of it is lost
abbrev pub ByteSays : Type 0
ByteSays = (t : Report) → (outcome_in (step_byte t) ≡ t.outcome) × (closed_in (step_byte t) ≡ t.closed)
