-- Bytes that are put behind others, and the records of all steps for one site and for two. Assumes nothing.
use mathlib.Core.Path.{◌≡◌, refl, sym, ap, subst, ◌∙◌}
use mathlib.Core.Bool.{true, false, cond}
use mathlib.Core.List.{List, [], ◌++◌, flatten}
use Prim.Native.Nat.{ℕ, zero, suc, ◌+◌, ◌≤◌, ◌<◌}
use native.Mathlib.Omega.{arith}
use native.Mathlib.Nat.{add-zero}
use lib.ListN.{length, get_or, take, drop, length-append}
use lib.Seq.{sets, sets-eq, take_at, length-take-le}
use borrow.Author.Tests.{leb-true}
use Rattle.number.specs.Table.{tabulate}
use Rattle.number.proofs.Table.{length_tabulate, get_d_tabulate}
use Rattle.text.specs.Put.{Put, each}
use Rattle.text.proofs.Putting.{Putting, put_room, put_next, put_all}
use Rattle.schedule.specs.Record.{record_in_range, record_length, record_bytes}
use Rattle.schedule.specs.Schedule.{steps_bytes}
use Rattle.schedule.proofs.Records.{record_length_lem}
use Rattle.exercises.specs.Sheet.{candidates, most_sites}
use Rattle.sheet.specs.Types.{Record}
use Rattle.sheet.specs.Level.{record_for, choices, choice_bytes, longest_steps}

-- what was put behind the first n bytes follows them
pub text_more : (bytes : List ℕ) (n : ℕ) (added : List ℕ) → n + length added ≤ length bytes → take (n + length added) (sets bytes n added) ≡ take n bytes ++ added
text_more bytes n added h =
    let long : length (take n bytes ++ added) ≡ n + length added = length-append (take n bytes) added ∙ ap (λ j. j + length added) (length-take-le n bytes (omega arith)) in
    ap (take (n + length added)) (sets-eq added bytes n h) ∙ take_at (take n bytes ++ added) (drop (n + length added) bytes) (n + length added) long

-- the choices in range, in turn, are all steps for that many sites
pub all_steps : (n : ℕ) → 1 ≤ n → n ≤ most_sites → each (choice_bytes n) choices ≡ steps_bytes (candidates n)
unfolding each tabulate flatten
all_steps zero h k = absurd (omega arith)
all_steps (suc zero) h k = refl
all_steps (suc (suc zero)) h k = refl
all_steps (suc (suc (suc n))) h k = absurd (omega arith)

-- and they have at most so many bytes
pub steps_most : (n : ℕ) → n ≤ most_sites → length (each (choice_bytes n) choices) ≤ longest_steps
unfolding each tabulate
steps_most zero k = leb-true (length (each (choice_bytes 0) choices)) longest_steps refl
steps_most (suc zero) k = leb-true (length (each (choice_bytes 1) choices)) longest_steps refl
steps_most (suc (suc zero)) k = leb-true (length (each (choice_bytes 2) choices)) longest_steps refl
steps_most (suc (suc (suc n))) k = absurd (omega arith)

-- The loop over the choices

module _ (n : ℕ) {out₀ out : List ℕ} {at c : ℕ} (g : Putting (choice_bytes n) choices out₀ 0 out at c) (h : c < 162) where
  here : get_or choices c 0 ≡ c
  here = get_d_tabulate 162 (λ c. c) c 0 h

  some : c < length choices
  some = omega (arith, length_tabulate 162 (λ (c : ℕ). c), h)

  next : Putting (choice_bytes n) choices out₀ 0 (sets out at (choice_bytes n c)) (at + length (choice_bytes n c)) (c + 1)
  next = subst (λ j. Putting (choice_bytes n) choices out₀ 0 (sets out at (choice_bytes n j)) (at + length (choice_bytes n j)) (c + 1)) here (put_next (choice_bytes n) choices out₀ 0 out at c g 0 some)

  -- a choice that the reader yields, and one that it doesn't

  module _ (r : Record) (e : r ≡ record_for c) where
    pub put_choice : record_in_range n r ≡ true → Putting (choice_bytes n) choices out₀ 0 (sets out at (record_bytes r)) (at + record_length r) (c + 1)
    put_choice q =
        let same : choice_bytes n c ≡ record_bytes r = sym (ap (λ x. cond (record_in_range n x) (record_bytes x) []) e) ∙ ap (λ b. cond b (record_bytes r) []) q in
        subst (λ k. Putting (choice_bytes n) choices out₀ 0 (sets out at (record_bytes r)) (at + k) (c + 1)) (record_length_lem r)
        (subst (λ l. Putting (choice_bytes n) choices out₀ 0 (sets out at l) (at + length l) (c + 1)) same next)

    pub choice_fits : record_in_range n r ≡ true → at + record_length r ≤ length (each (choice_bytes n) choices)
    choice_fits q =
        let same : choice_bytes n c ≡ record_bytes r = sym (ap (λ x. cond (record_in_range n x) (record_bytes x) []) e) ∙ ap (λ b. cond b (record_bytes r) []) q in
        omega (arith, put_room (choice_bytes n) choices out₀ 0 out at c g 0 some, ap (λ j. length (choice_bytes n j)) here, ap length same, record_length_lem r)

    pub pass_choice : record_in_range n r ≡ false → Putting (choice_bytes n) choices out₀ 0 out at (c + 1)
    pass_choice q =
        let none : choice_bytes n c ≡ [] = sym (ap (λ x. cond (record_in_range n x) (record_bytes x) []) e) ∙ ap (λ b. cond b (record_bytes r) []) q in
        subst (λ k. Putting (choice_bytes n) choices out₀ 0 out k (c + 1)) (add-zero at) (subst (λ l. Putting (choice_bytes n) choices out₀ 0 (sets out at l) (at + length l) (c + 1)) none next)

pub all_choices : (n : ℕ) {out₀ out : List ℕ} {at c : ℕ} → Putting (choice_bytes n) choices out₀ 0 out at c → 162 ≤ c → Put out₀ 0 (each (choice_bytes n) choices) at out
all_choices n {out₀} {out} {at} {c} g end = put_all (choice_bytes n) choices out₀ 0 out at c g (omega (arith, length_tabulate 162 (λ (c : ℕ). c)))

-- what the loop's goals ask for but the next turn
pub ruleset putting_choices = (steps_most, choice_fits, all_choices)
