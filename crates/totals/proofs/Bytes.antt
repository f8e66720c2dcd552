-- Whether some byte says an outcome, one byte after another; and sums of lists, one number after another. Assumes nothing.
use mathlib.Core.Path.{◌≡◌, sym, ap, ◌∙◌}
use mathlib.Core.Bool.{Bool, ◌||◌, or-false, or_assoc}
use mathlib.Core.List.{List, [], ◌∷◌}
use Prim.Native.Nat.{ℕ, suc, ◌+◌, ◌*◌, ◌^◌, ◌≤◌, ◌<◌}
use native.Mathlib.Omega.{arith}
use native.Mathlib.Numerals.{add-one}
use lib.ListN.{length, get_or, drop, drop_of_length-le}
use lib.Seq.{drop-cons}
use Rattle.std.specs.List.{sum as total, fold}
use Rattle.schedule.specs.Record.{longest}
use Rattle.figures.specs.Sums.{sum}
use Rattle.figures.specs.Figures.{says, said_in}
use Rattle.totals.specs.Types.{Outcome}
use Rattle.totals.specs.Adding.{Entries}

-- before byte i: whether one was found, or is yet to be

pub said_next : (o : Outcome) (bytes : List ℕ) (i : ℕ) (found : Bool) → i < length bytes
    → (found || says o (get_or bytes i 0)) || said_in o (drop (i + 1) bytes) ≡ found || said_in o (drop i bytes)
unfolding said_in
said_next o bytes i found some =
    ap (λ j. (found || says o (get_or bytes i 0)) || said_in o (drop j bytes)) (add-one i)
    ∙ or_assoc found (says o (get_or bytes i 0)) (said_in o (drop (suc i) bytes))
    ∙ sym (ap (λ l. found || said_in o l) (drop-cons bytes i 0 some))

pub said_all : (o : Outcome) (bytes : List ℕ) (i : ℕ) (found : Bool) → length bytes ≤ i → found ≡ found || said_in o (drop i bytes)
unfolding said_in
said_all o bytes i found h = sym (ap (λ l. found || said_in o l) (drop_of_length-le bytes h) ∙ or-false found)

-- the library's sum is this one, and that of entries has room

sum_after : (k : ℕ) (l : List ℕ) → fold (λ a x. a + x) k l ≡ k + sum l
unfolding sum
sum_after k [] = omega arith
sum_after k (x ∷ l) = omega (arith, sum_after (k + x) l)

pub sum_same : (l : List ℕ) → total l ≡ sum l
sum_same l = omega (arith, sum_after 0 l)

sum_most : (most : ℕ) (l : List ℕ) → ((p : ℕ) → get_or l p 0 ≤ most) → sum l ≤ length l * most
unfolding sum
sum_most most [] few = omega arith
sum_most most (x ∷ l) few = omega (arith, few 0, sum_most most l (λ p. few (suc p)))

pub sum_few : (l : List ℕ) → Entries l → total l < 2 ^ 32
sum_few l e = omega (arith, sum_same l, sum_most longest l e.few, e.parties)
