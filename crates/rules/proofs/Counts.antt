-- A release counts the due store calls of each party. Assumes nothing.
use mathlib.Core.Path.{◌≡◌, refl, sym, ap, ◌∙◌}
use mathlib.Core.List.{[], ◌∷◌}
use mathlib.Core.Bool.{Bool, true, false, cond, ◌&&◌}
use Prim.Native.Nat.{ℕ, ◌+◌, ◌*◌, ◌≤◌, ◌<◌}
use native.Mathlib.Omega.{arith}
use native.Mathlib.Decide.{ℕ_discrete, dec_lt}
use lib.Dec.{eqb}
use lib.ListN.{length, get_or, get_or-eq_default}
use borrow.Author.Tests.{eq-eqb, ne_eqb}
use Rattle.kind.specs.Kind.{body_length}
use Rattle.kind.specs.Step.{step_kind}
use Rattle.rules.specs.Report.{moves}
use Rattle.rules.specs.Step.{idle, step}
use Rattle.rules.specs.Actions.{CallMade, CallAsWritten}
use Rattle.rules.specs.OneParty.{makes_call}
use Rattle.rules.specs.Run.{after, is_store_call_of, calls_made, CallsCounted}
use Rattle.rules.specs.Types.{Step, Start, Deliver, Copy, Lose, Timeout, Crash, Restart, Release, Report}
use Rattle.rules.proofs.Actions.{calls_as_written, not_due_stays}
use Rattle.rules.proofs.OneParty.{logs_stay}
use Rattle.rules.proofs.Causes.{cause}
use Rattle.rules.proofs.Room.{caused_room}

-- what a step adds to the count of party p

record Counts (r : Release) (p : ℕ) (s : Step) (t : Report) : Type 0 where
  added : get_or t.next.calls p 0 ≡ get_or r.calls p 0 + cond (is_store_call_of p s && moves t.outcome) 1 0

uncounted : (r : Release) (p : ℕ) (s : Step) → makes_call s ≡ false → is_store_call_of p s ≡ false → Counts r p s (step r s)
uncounted r p s h e = record { added = rw ((logs_stay r s h).1, e) (omega arith) }

-- a call of party q on log j, which left the counts and was due as u, the call with its answer lost
counted : (r : Release) (p q j : ℕ) (s : Step) (t u : Report) → p < length r.calls → is_store_call_of p s ≡ eqb q p → t.next.calls ≡ u.next.calls
    → moves t.outcome ≡ moves u.outcome → (moves u.outcome ≡ false → u ≡ idle r) → (moves u.outcome ≡ true → CallMade r q j u.next) → Counts r p s t
counted r p q j s t u l c same alike stays made = record { added = rw (same, c, alike) (go (moves u.outcome) refl) }
  where
    none : (b : Bool) → get_or r.calls p 0 ≡ get_or r.calls p 0 + cond (b && false) 1 0
    none true = omega arith
    none false = omega arith

    one : CallMade r q j u.next → Dec (p ≡ q) → get_or u.next.calls p 0 ≡ get_or r.calls p 0 + cond (eqb q p && true) 1 0
    one m (yes k) = rw (k, eq-eqb q q refl) (m.count (rw (← k) l))
    one m (no ne) = rw (ne_eqb q p (λ k. ne (sym k))) (m.counts p ne ∙ omega arith)

    go : (b : Bool) → moves u.outcome ≡ b → get_or u.next.calls p 0 ≡ get_or r.calls p 0 + cond (eqb q p && b) 1 0
    go false e = ap (λ (x : Report). get_or x.next.calls p 0) (stays e) ∙ none (eqb q p)
    go true e = one (made e) (ℕ_discrete p q)

step_counts : (r : Release) (p : ℕ) (s : Step) → p < length r.calls → Counts r p s (step r s)
step_counts r p Start l = uncounted r p Start refl refl
step_counts r p (Deliver m q) l = uncounted r p (Deliver m q) refl refl
step_counts r p (Copy m q) l = uncounted r p (Copy m q) refl refl
step_counts r p (Lose m q) l = uncounted r p (Lose m q) refl refl
step_counts r p (Step.Call q j) l =
    let c : CallAsWritten r q j (step r (Step.Call q j)) (step r (Step.CallLost q j)) = calls_as_written r q j in
    counted r p q j (Step.Call q j) _ _ l refl c.calls c.due_alike (not_due_stays r (Step.CallLost q j)) c.made
step_counts r p (Step.CallLost q j) l =
    counted r p q j (Step.CallLost q j) _ _ l refl refl refl (not_due_stays r (Step.CallLost q j)) (calls_as_written r q j).made
step_counts r p (Timeout q) l = uncounted r p (Timeout q) refl refl
step_counts r p (Crash q) l = uncounted r p (Crash q) refl refl
step_counts r p (Restart q) l = uncounted r p (Restart q) refl refl

pub calls_counted : CallsCounted
calls_counted r [] p l = omega arith
calls_counted r (s ∷ ss) p l =
    let c : Counts r p s (step r s) = step_counts r p s l in
    let rest : get_or (after (step r s).next ss).calls p 0 ≡ get_or (step r s).next.calls p 0 + calls_made p (step r s).next ss =
    calls_counted (step r s).next ss p (rw (caused_room r (cause r s)).calls l) in
    omega (arith, c.added)

-- a step adds at most one to each count
pub one_call_more : (r : Release) (s : Step) (p : ℕ) → get_or (step r s).next.calls p 0 ≤ get_or r.calls p 0 + 1
one_call_more r s p = go (dec_lt p (length r.calls))
  where
    at_most : (b : Bool) → cond b 1 0 ≤ 1
    at_most true = omega arith
    at_most false = omega arith

    go : Dec (p < length r.calls) → get_or (step r s).next.calls p 0 ≤ get_or r.calls p 0 + 1
    go (yes l) = omega (arith, (step_counts r p s l).added, at_most (is_store_call_of p s && moves (step r s).outcome))
    go (no ne) = rw (get_or-eq_default (step r s).next.calls 0 {n = p} (rw (caused_room r (cause r s)).calls (omega arith))) (omega arith)

-- a counted call has a record of three bytes: three times a count grows by no more than the bytes of the steps
pub calls_by_bytes : (r : Release) (s : Step) (p : ℕ) → 3 * get_or (step r s).next.calls p 0 ≤ 3 * get_or r.calls p 0 + (1 + body_length (step_kind s))
calls_by_bytes r s p = go (dec_lt p (length r.calls))
  where
    three : (c : Bool) → 3 * cond c 1 0 ≤ 3
    three true = omega arith
    three false = omega arith

    by_bytes : (s : Step) (b : Bool) → 3 * cond (is_store_call_of p s && b) 1 0 ≤ 1 + body_length (step_kind s)
    by_bytes Start b = omega arith
    by_bytes (Deliver m q) b = omega arith
    by_bytes (Copy m q) b = omega arith
    by_bytes (Lose m q) b = omega arith
    by_bytes (Step.Call q j) b = three (eqb q p && b)
    by_bytes (Step.CallLost q j) b = three (eqb q p && b)
    by_bytes (Timeout q) b = omega arith
    by_bytes (Crash q) b = omega arith
    by_bytes (Restart q) b = omega arith

    go : Dec (p < length r.calls) → 3 * get_or (step r s).next.calls p 0 ≤ 3 * get_or r.calls p 0 + (1 + body_length (step_kind s))
    go (yes l) = omega (arith, (step_counts r p s l).added, by_bytes s (moves (step r s).outcome))
    go (no ne) = rw (get_or-eq_default (step r s).next.calls 0 {n = p} (rw (caused_room r (cause r s)).calls (omega arith))) (omega arith)
