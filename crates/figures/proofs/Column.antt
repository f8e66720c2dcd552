-- The column of calls: added party by party it is the total of the schedules, and each entry is what the rules count for its party. Assumes nothing.
use mathlib.Core.Path.{◌≡◌, refl, sym, ap₂, ◌∙◌}
use mathlib.Core.List.{List, map}
use Prim.Native.Nat.{ℕ, suc, ◌+◌, ◌≤◌, ◌<◌}
use native.Mathlib.Omega.{arith}
use native.Mathlib.Decide.{dec_lt}
use lib.ListN.{length, get_or, get_or-eq_default}
use Rattle.number.proofs.Table.{length_tabulate, get_d_tabulate}
use Rattle.store.specs.Log.{places}
use Rattle.schedule.proofs.Laws.{header_room, header_size, header_votes}
use Rattle.rules.specs.Run.{calls_made}
use Rattle.rules.proofs.Reached.{reached_in_range}
use Rattle.rules.proofs.Room.{after_room}
use Rattle.passes.specs.Pass.{fresh_of}
use Rattle.passes.proofs.Begun.{run_counted}
use Rattle.figures.specs.Types.{Header}
use Rattle.figures.specs.Class.{Schedule, Class, read_class, ScheduleInRange}
use Rattle.figures.specs.Sums.{sum, largest}
use Rattle.figures.specs.Figures.{calls_of, calls_in, column_of, sites_of}
use Rattle.figures.specs.Promises.{EachRuns, no_more, runs_and_then, ColumnTotal, ColumnByRules}
use Rattle.figures.proofs.Sums.{sum_exchange, sum_front, larger_le}
use Rattle.figures.proofs.Single.{calls_by_rules, read_whole}
use Rattle.figures.proofs.Kept.{single_reports}

entry : (ss : List Schedule) (p : ℕ) → p ≤ places → get_or (column_of ss) p 0 ≡ sum (map (λ s. calls_of s p) ss)
entry ss p small = get_d_tabulate (suc places) (λ q. sum (map (λ s. calls_of s q) ss)) p 0 (omega arith)

parties : (ss : List Schedule) → length (column_of ss) ≡ suc places
parties ss = length_tabulate (suc places) (λ q. sum (map (λ s. calls_of s q) ss))

-- by the order of summation
pub column_sum : (ss : List Schedule) → sum (column_of ss) ≡ sum (map calls_in ss)
column_sum ss = sum_exchange (suc places) calls_of ss

pub column_total : ColumnTotal
column_total ss = record { parties = parties ss; party = entry ss; from_column = sym (column_sum ss); by_schedule = refl }

-- By the rules

each_made : {ps : List (List ℕ)} {ss : List Schedule} → EachRuns ps ss → (p : ℕ) → p ≤ places
    → sum (map (λ s. calls_of s p) ss) ≡ sum (map (λ s. calls_made p (fresh_of s.header) s.steps) ss)
unfolding sum
each_made no_more p small = refl
each_made (runs_and_then {part} {rest} {s} {ss} r rs) p small =
    let x = read_whole part s r.accepted in
    ap₂ (λ a b. a + b) (calls_by_rules.party s (x.header, x.ranged) (omega (arith, x.long, x.short)) p small) (each_made rs p small)

-- a party beyond n makes no call
none_made : (s : Schedule) → ScheduleInRange s → (p : ℕ) → p ≤ places → sites_of s < p → calls_made p (fresh_of s.header) s.steps ≡ 0
none_made s q p small beyond =
    let h : Header = s.header in
    let ranged = reached_in_range places h.n h.votes (header_room h q.0).0 (header_size h q.0).1 (header_votes h q.0) s.steps q.1 in
    sym (run_counted h s.steps p (omega arith)) ∙ ranged.calls_beyond p (omega (arith, (after_room (fresh_of h) s.steps).same_n))

each_none : {ps : List (List ℕ)} {ss : List Schedule} → EachRuns ps ss → (p : ℕ) → p ≤ places → largest (map sites_of ss) < p
    → sum (map (λ s. calls_made p (fresh_of s.header) s.steps) ss) ≡ 0
unfolding sum largest
each_none no_more p small beyond = refl
each_none (runs_and_then {part} {rest} {s} {ss} r rs) p small beyond =
    let x = read_whole part s r.accepted in
    let most = larger_le (sites_of s) (largest (map sites_of ss)) in
    omega (arith, none_made s (x.header, x.ranged) p small (omega (arith, most.0)), each_none rs p small (omega (arith, most.1)))

module _ (file : List ℕ) (ss : List Schedule) (e : read_class file ≡ Class ss) where
  made : (p : ℕ) → p ≤ places → get_or (column_of ss) p 0 ≡ sum (map (λ s. calls_made p (fresh_of s.header) s.steps) ss)
  made p small = entry ss p small ∙ each_made (single_reports file ss e) p small

  none : (p : ℕ) → largest (map sites_of ss) < p → get_or (column_of ss) p 0 ≡ 0
  none p beyond = go (dec_lt p (suc places))
    where
      go : Dec (p < suc places) → get_or (column_of ss) p 0 ≡ 0
      go (yes small) = made p (omega arith) ∙ each_none (single_reports file ss e) p (omega arith) beyond
      go (no ne) = get_or-eq_default (column_of ss) 0 {n = p} (omega (arith, parties ss))

pub column_by_rules : ColumnByRules
column_by_rules =
    record {
      party = made;
      beyond = none;
      up_to_sites = λ file ss e. sum_front (suc (largest (map sites_of ss))) (column_of ss) (λ p h. none file ss e p (omega arith)) ∙ column_sum ss;
    }
