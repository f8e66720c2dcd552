-- Every sheet has a schedule, and none has more bytes than `longest_sheet`: by computation over all of them. Assumes nothing.
use mathlib.Core.Path.{◌≡◌, refl, sym}
use mathlib.Core.Bool.{Bool, true, true≢false, ◌&&◌}
use mathlib.Core.List.{flatten}
use Prim.Native.Nat.{ℕ, zero, suc, ◌^◌, ◌<◌}
use native.Mathlib.Omega.{arith}
use lib.Dec.{leb, ltb}
use lib.ListN.{length}
use borrow.Author.Tests.{leb-true, ltb-true}
use Rattle.number.specs.Table.{tabulate, every}
use Rattle.number.proofs.Table.{every_at}
use Rattle.number.proofs.Laws.{and_left, and_right}
use Rattle.mask.proofs.Laws.{within_lt}
use Rattle.kind.specs.Kind.{room}
use Rattle.kind.specs.Step.{number_in_range}
use Rattle.rules.specs.Step.{participant_to, coordinator_to, participant_calls, coordinator_calls}
use Rattle.exercises.specs.Types.{Kind}
use Rattle.exercises.specs.Sheet.{due_lists, sheet, sheet_bytes, header_for}
use Rattle.exercises.specs.Promises.{longest_sheet, SheetFits}
use Rattle.exercises.proofs.Holds.{Bounds, bounds}

abbrev fitting : ℕ → ℕ → ℕ → Bool
fitting n votes k = ltb 0 (length (sheet (header_for n votes) k)) && leb (length (sheet_bytes (header_for n votes) k)) longest_sheet

-- for every vote mask, k = 0 to 3
abbrev all_fitting : ℕ → ℕ → Bool
all_fitting n masks = every (λ votes. every (fitting n votes) 4) masks

one_site : all_fitting 1 2 ≡ true
unfolding every flatten tabulate due_lists participant_to coordinator_to participant_calls coordinator_calls
one_site = refl

two_sites : all_fitting 2 4 ≡ true
unfolding every flatten tabulate due_lists participant_to coordinator_to participant_calls coordinator_calls
two_sites = refl

longest_one : length (sheet_bytes (header_for 2 3) 3) ≡ longest_sheet
unfolding flatten tabulate due_lists participant_to coordinator_to participant_calls coordinator_calls
longest_one = refl

votes_below : (n votes : ℕ) {k : ℕ} → Bounds n votes k → votes < 2 ^ n
votes_below n votes b = within_lt n votes (and_right (number_in_range 1 n (room Kind.Header)) _ b.header)

fitted : (n votes k : ℕ) → Bounds n votes k → fitting n votes k ≡ true
fitted n votes k b = go n (votes_below n votes b) b
  where
    one_of : (n masks : ℕ) → votes < masks → all_fitting n masks ≡ true → fitting n votes k ≡ true
    one_of n masks v all = every_at (fitting n votes) 4 k (omega (arith, b.few)) (every_at (λ votes. every (fitting n votes) 4) masks votes v all)

    go : (n : ℕ) → votes < 2 ^ n → Bounds n votes k → fitting n votes k ≡ true
    go zero v c = absurd (true≢false (sym c.header))
    go (suc zero) v c = one_of 1 2 v one_site
    go (suc (suc zero)) v c = one_of 2 4 v two_sites
    go (suc (suc (suc n))) v c = absurd (omega (arith, c.sites))

pub sheet_fits : SheetFits
sheet_fits =
    record {
      some = λ n votes k q. let h = header_for n votes in ltb-true 0 (length (sheet h k)) (and_left (ltb 0 (length (sheet h k))) _ (fitted n votes k (bounds n votes k q)));
      fits = λ n votes k q. let h = header_for n votes in leb-true (length (sheet_bytes h k)) longest_sheet (and_right (ltb 0 (length (sheet h k))) _ (fitted n votes k (bounds n votes k q)));
      longest = longest_one;
    }
