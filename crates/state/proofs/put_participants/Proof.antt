-- `state::put_participants` meets its contract, case by case. Assumes nothing.
use mathlib.Core.Path.{refl}
use Prim.Native.Nat.{◌-◌, ◌≤◌}
use native.Mathlib.Omega.{arith}
use lib.ListN.{get_or}
use Rattle.store.specs.Log.{places}
use Rattle.rules.specs.State.{waiting}
use Rattle.state.specs.Types.{Release}
use Rattle.state.specs.Fields.{with_sites}
use Rattle.state.proofs.Filling.{UpTo, one_participant_lem, all_put}
use borrow.Author.Rules.{rules}
use Rattle.state.proofs.put_participants.Statement.{statement}
use Rattle.state.proofs.put_participants.Tie as tie

abbrev invariant_loop : tie.invariant-loop-i
invariant_loop fields₀ sites i₀ fields i = (i ≤ places) × UpTo with_sites (λ (r : Release). r.sites) (λ j. get_or sites j waiting) i fields₀ fields

abbrev decreases_loop : tie.decreases-loop-i
decreases_loop fields₀ sites i₀ fields i = places - i

pub put_participants_spec : {M : Type 1} → statement M
put_participants_spec =
    tie.close
    (tie.spec
    invariant_loop
    decreases_loop
    (λ c. (omega arith, λ r h e. e))
    (λ c. search rules)
    (λ c. search rules)
    (λ c. search rules)
    (λ c κs. search rules)
    (λ c. search rules)
    (λ c. search rules)
    (λ c. (omega arith, rw c.put_participant.ensures (one_participant_lem _ _ _ _ _ (omega arith) refl c.before.before.before.before.loop-i.invariant.1)))
    (λ c. all_put _ _ with_sites (λ (r : Release). r.sites) _ places _ c.before.loop-i.invariant.0 (omega arith) (λ r h. h.sites) c.before.loop-i.invariant.1))
