-- The single step takes the rules' step on the numbers of its release. Assumes nothing.
use mathlib.Core.Path.{◌≡◌, sym, ap, ap₂, ◌∙◌}
use mathlib.Core.Bool.{Bool, true}
use mathlib.Core.List.{List}
use Prim.Native.Nat.{suc, ℕ}
use native.Mathlib.Omega.{arith}
use lib.ListN.{length}
use Rattle.number.proofs.Table.{length_tabulate}
use Rattle.mask.specs.Mask.{full}
use Rattle.store.specs.Log.{places}
use Rattle.rules.specs.Step.{step}
use Rattle.rules.specs.Run.{count_limit}
use Rattle.rules.proofs.Counts.{one_call_more}
use Rattle.state.specs.Fields.{fields, HasPlaces, release_in}
use Rattle.state.proofs.Parts.{count_in_lem}
use Rattle.state.proofs.Filling.{step_places, release_in_lem}
use Rattle.call.specs.Steps.{Steps, CanCount}
use Rattle.tail.specs.Tail.{release_of, tail_in_range}
use Rattle.tail.specs.Types.{Kind, Tail, Step, Store, Release, Report, Outcome}
use Rattle.tail.proofs.TailRange.{calls_below}

module _ (t : Tail) (m : length t.messages ≡ 5) (k : length t.calls ≡ suc places) (q : tail_in_range Kind.WideHeader count_limit t ≡ true) (l : List ℕ) (e : l ≡ fields (release_of t)) where
  tail_places : HasPlaces (release_of t)
  tail_places = record { sites = length_tabulate places _; messages = m; calls = k }

  pub can_count : CanCount l
  can_count p g = rw (e, count_in_lem (release_of t) tail_places p g) (calls_below Kind.WideHeader count_limit t (omega arith) k q p)

  module _ (s : Step) (o : Outcome) (c : Bool) (after : List ℕ) (before next : Store) (all : ℕ) (w : all ≡ full t.n) (b : before ≡ (release_of t).store) (leads : Steps all (λ r. step r s) l before o c after next) where
    led : (o ≡ (step (release_of t) s).outcome) × (after ≡ fields (step (release_of t) s).next) × (next ≡ (step (release_of t) s).next.store) × (c ≡ (step (release_of t) s).closed)
    led = leads (release_of t) tail_places (sym w) e b

    pub same_outcome : o ≡ (step (release_of t) s).outcome
    same_outcome = led.0

    pub same_report : (x : Release) → x ≡ release_in after next → ◌≡◌ {A = Report} (record { outcome = o; closed = c; next = x }) (step (release_of t) s)
    same_report x y =
        ap (λ (z : Bool). record { outcome = o; closed = z; next = x }) led.3
        ∙ ap₂ (λ (x : Outcome) (r : Release). record { outcome = x; closed = (step (release_of t) s).closed; next = r }) same_outcome
        (y ∙ ap₂ release_in led.1 led.2 ∙ release_in_lem (step (release_of t) s).next (step_places (release_of t) s tail_places) (λ p. omega (arith, one_call_more (release_of t) s p, calls_below Kind.WideHeader count_limit t (omega arith) k q p)))
