-- The marker's bytes have the word `closed` just where request 2026-01 says so. Assumes nothing.
use mathlib.Core.Path.{◌≡◌, sym, ap, subst, ◌∙◌}
use mathlib.Core.Logic.{◌↔◌}
use mathlib.Core.Bool.{true}
use mathlib.Core.List.{List}
use Prim.Native.Nat.{ℕ, suc, ◌≤◌, ◌<◌}
use native.Mathlib.Omega.{arith}
use lib.ListN.{length, get_or, take, length-replicate}
use lib.Seq.{split_at}
use Rattle.store.specs.Log.{places, empty}
use Rattle.kind.specs.Step.{in_range, AllInRange}
use Rattle.rules.specs.Report.{closed_in, step_byte}
use Rattle.rules.specs.Step.{step}
use Rattle.rules.specs.Run.{after}
use Rattle.rules.specs.Closed.{ClosesAnother}
use Rattle.rules.proofs.Agreement.{range_right}
use Rattle.rules.proofs.Bytes.{byte_says, closed_bytes}
use Rattle.rules.proofs.Closed.{closed_as_written}
use Rattle.rules.proofs.Room.{after_room}
use Rattle.passes.specs.Pass.{fresh_of, step_bytes}
use Rattle.passes.proofs.Passed.{bytes_length}
use Rattle.marker.specs.Types.{LogPair, Step, Header, Release}
use Rattle.marker.specs.Demand.{ClosedHold}
use Rattle.marker.proofs.Steps.{byte_at, after_one_more}

module _ (h : Header) (steps : List Step) (small : h.n ≤ places) (ranged : AllInRange h.n steps) where
  module _ (i : ℕ) (l : i < length steps) where
    abbrev s : Step
    s = get_or steps i Step.Start

    abbrev before : Release
    before = after (fresh_of h) (take i steps)

    room : before.n ≤ length before.store.logs
    room = let same = after_room (fresh_of h) (take i steps) in omega (arith, same.same_n, same.logs, length-replicate {A = LogPair} places empty)

    in_range_lem : in_range before.n s ≡ true
    in_range_lem =
        rw (after_room (fresh_of h) (take i steps)).same_n
        (range_right h.n (take i steps) _ (subst (AllInRange h.n) (split_at steps i Step.Start l) ranged)).0

    closed_at : (closed_in (get_or (step_bytes (fresh_of h) steps) i 0) ≡ true) ↔ ClosesAnother before s (after (fresh_of h) (take (suc i) steps))
    closed_at =
        let same : closed_in (get_or (step_bytes (fresh_of h) steps) i 0) ≡ (step before s).closed = ap closed_in (byte_at (fresh_of h) steps i Step.Start l) ∙ (byte_says (step before s)).1 in
        let next = after_one_more (fresh_of h) steps i Step.Start l in
        let written = closed_as_written before s room in_range_lem in
        (λ e. subst (ClosesAnother before s) (sym next) (written.0 (sym same ∙ e)), λ x. same ∙ written.1 (subst (ClosesAnother before s) next x))

    never_at : (b : ℕ) → get_or (step_bytes (fresh_of h) steps) i 0 ≡ b → step_byte (step before s) ≡ b
    never_at b e = sym (byte_at (fresh_of h) steps i Step.Start l) ∙ e

  pub closed_holds : ClosedHold h steps (step_bytes (fresh_of h) steps)
  closed_holds =
      let long = bytes_length (fresh_of h) steps in
      record {
        closed = λ i l. closed_at i (omega (arith, long));
        never =
            λ i l. (
              λ e. (closed_bytes (before i (omega (arith, long))) (s i (omega (arith, long)))).never_4 (never_at i (omega (arith, long)) 4 e),
              λ e. (closed_bytes (before i (omega (arith, long))) (s i (omega (arith, long)))).never_6 (never_at i (omega (arith, long)) 6 e),
            );
      }
