-- A run over a list of steps: each step gets the state that the one before it left. Assumes nothing.
use Rattle.std.specs.Prelude.{◌≡◌, Bool, false, cond, ◌&&◌, List, [], ◌∷◌, map, ℕ, ◌+◌, ◌<◌, eqb, length, get_or}
use Rattle.rules.specs.Step.{step, is_due}
use Rattle.rules.specs.Types.{Release, Step, Start, Deliver, Copy, Lose, Timeout, Crash, Restart, Outcome, Report}

-- what the steps report, step by step, and their outcomes
abbrev pub reports : Release → List Step → List Report
reports r [] = []
reports r (s ∷ ss) = step r s ∷ reports (step r s).next ss

abbrev pub outcomes : Release → List Step → List Outcome
outcomes r steps = map (λ (t : Report). t.outcome) (reports r steps)

-- the release after the last step
abbrev pub after : Release → List Step → Release
after r [] = r
after r (s ∷ ss) = after (step r s).next ss

-- the due store calls made by party p (kinds 06 and 07)
abbrev pub is_store_call_of : ℕ → Step → Bool
is_store_call_of p Start = false
is_store_call_of p (Deliver m q) = false
is_store_call_of p (Copy m q) = false
is_store_call_of p (Lose m q) = false
is_store_call_of p (Step.Call q j) = eqb q p
is_store_call_of p (Step.CallLost q j) = eqb q p
is_store_call_of p (Timeout q) = false
is_store_call_of p (Crash q) = false
is_store_call_of p (Restart q) = false

abbrev pub calls_made : ℕ → Release → List Step → ℕ
calls_made p r [] = 0
calls_made p r (s ∷ ss) = cond (is_store_call_of p s && is_due r s) 1 0 + calls_made p (step r s).next ss

-- a count of two bytes; below this one it has room for one call more
abbrev pub count_limit : ℕ
count_limit = 65535

abbrev pub Countable : List ℕ → Type 0
Countable calls = (p : ℕ) → get_or calls p 0 < count_limit

-- a release counts them: proved in proofs/Counts.antt
abbrev pub CallsCounted : Type 0
CallsCounted = (r : Release) (steps : List Step) (p : ℕ) → p < length r.calls → get_or (after r steps).calls p 0 ≡ get_or r.calls p 0 + calls_made p r steps
