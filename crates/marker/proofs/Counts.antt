-- The counts in a tail are the due store calls that the rules count over the steps. Assumes nothing.
use mathlib.Core.Path.{◌≡◌, sym, ap, ◌∙◌}
use mathlib.Core.Bool.{true}
use mathlib.Core.List.{List}
use Prim.Native.Nat.{ℕ, suc}
use native.Mathlib.Omega.{arith}
use lib.ListN.{get_or}
use Rattle.number.proofs.Table.{get_d_tabulate}
use Rattle.store.specs.Log.{places}
use Rattle.kind.specs.Step.{AllInRange}
use Rattle.schedule.specs.Record.{header_in_range}
use Rattle.rules.specs.Run.{after, Countable}
use Rattle.tail.specs.Tail.{tail_of}
use Rattle.passes.specs.Pass.{fresh_of}
use Rattle.passes.proofs.Begun.{run_counted}
use Rattle.form.specs.Form.{form_of, tail_bytes, count_at}
use Rattle.form.proofs.Kept.{tail_kept}
use Rattle.marker.specs.Types.{Step, Header, Release, Tail}
use Rattle.marker.specs.Demand.{CountsHold}
use Rattle.marker.proofs.TailBytes.{run_fits}

module _ (h : Header) (steps : List Step) (q : header_in_range h ≡ true) (a : AllInRange h.n steps) (few : Countable (after (fresh_of h) steps).calls) where
  pub counts_hold : CountsHold h steps (tail_bytes (form_of h.kind) (tail_of (after (fresh_of h) steps)))
  counts_hold p small =
      let r : Release = after (fresh_of h) steps in
      let bytes : List ℕ = tail_bytes (form_of h.kind) (tail_of r) in
      sym (get_d_tabulate (suc places) (count_at (form_of h.kind) bytes) p 0 (omega arith))
      ∙ ap (λ (t : Tail). get_or t.calls p 0) (tail_kept (form_of h.kind) (tail_of r) (run_fits h steps q a few))
      ∙ run_counted h steps p (omega arith)
