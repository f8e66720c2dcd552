-- The candidates are just the steps in range, for any n; and for the n of a sheet they stand in the order of their bytes. Assumes nothing.
use mathlib.Core.Path.{◌≡◌, refl}
use mathlib.Core.Logic.{inl, inr}
use mathlib.Core.Bool.{Bool, true, ◌&&◌}
use mathlib.Core.List.{List, [], ◌∷◌, flatten}
use Prim.Native.Nat.{ℕ, zero, suc, ◌≤◌}
use native.Mathlib.Omega.{arith}
use lib.Dec.{leb}
use borrow.Author.Tests.{leb-true, le-leb}
use Rattle.number.specs.Table.{tabulate}
use Rattle.number.proofs.Laws.{and_left, and_right, and_true}
use Rattle.kind.specs.Step.{in_range, AllInRange}
use Rattle.kind.proofs.Numbers.{between}
use Rattle.schedule.specs.Record.{step_record, record_bytes}
use Rattle.exercises.specs.Types.{Message, Step}
use Rattle.exercises.specs.Sheet.{messages, by_message, by_call, by_party, kinds, candidates, most_sites}
use Rattle.exercises.proofs.Lists.{All, Among, Ordered, all_of, all_among, all_gather, all_flatten, all_table, among_gather, among_flatten, among_table}
use Rattle.exercises.proofs.Order.{is_below, is_below_lem}
use Rattle.exercises.proofs.DueLists.{StepBefore}

-- Every step in range is a candidate

any : (m : Message) → Among m messages
any Message.Request = inl refl
any Message.ReplyYes = inr (inl refl)
any Message.ReplyAbort = inr (inr (inl refl))
any Message.Commit = inr (inr (inr (inl refl)))
any Message.Abort = inr (inr (inr (inr (inl refl))))

-- a participant or a log p of n stands at place p - 1
among_places : {A : Type 0} (f : ℕ → A) (n p : ℕ) → 1 ≤ p → p ≤ n → Among (f p) (tabulate n (λ i. f (suc i)))
among_places f n zero h l = absurd (omega arith)
among_places f n (suc i) h l = among_table n (λ i. f (suc i)) i (omega arith)

among_message : (f : Message → ℕ → Step) (n : ℕ) (m : Message) (p : ℕ) → 1 ≤ p → p ≤ n → Among (f m p) (by_message f n)
among_message f n m p h l = among_gather (λ m. tabulate n (λ i. f m (suc i))) (f m p) m messages (any m) (among_places (f m) n p h l)

among_call : (f : ℕ → ℕ → Step) (n p q : ℕ) → p ≤ n → 1 ≤ q → q ≤ n → Among (f p q) (by_call f n)
among_call f n p q h a l =
    among_flatten (f p q) (tabulate n (λ j. f p (suc j))) (tabulate (suc n) (λ p. tabulate n (λ j. f p (suc j))))
    (among_table (suc n) (λ p. tabulate n (λ j. f p (suc j))) p (omega arith)) (among_places (f p) n q a l)

among_party : (f : ℕ → Step) (n p : ℕ) → p ≤ n → Among (f p) (by_party f n)
among_party f n p h = among_table (suc n) f p (omega arith)

module _ (n : ℕ) where
  put : (s : Step) (l : List Step) → Among l (kinds n) → Among s l → Among s (candidates n)
  put s l m k = among_flatten s l (kinds n) m k

  pub candidate : (s : Step) → in_range n s ≡ true → Among s (candidates n)
  candidate Step.Start h = put Step.Start (Step.Start ∷ []) (inl refl) (inl refl)
  candidate (Step.Deliver m p) h = let b = between 1 p n h in put (Step.Deliver m p) (by_message Step.Deliver n) (inr (inl refl)) (among_message Step.Deliver n m p b.0 b.1)
  candidate (Step.Copy m p) h = let b = between 1 p n h in put (Step.Copy m p) (by_message Step.Copy n) (inr (inr (inl refl))) (among_message Step.Copy n m p b.0 b.1)
  candidate (Step.Lose m p) h = let b = between 1 p n h in put (Step.Lose m p) (by_message Step.Lose n) (inr (inr (inr (inl refl)))) (among_message Step.Lose n m p b.0 b.1)
  candidate (Step.Call p q) h =
      let b = between 1 q n (and_right (leb p n) _ h) in
      put (Step.Call p q) (by_call Step.Call n) (inr (inr (inr (inr (inl refl))))) (among_call Step.Call n p q (leb-true p n (and_left (leb p n) _ h)) b.0 b.1)
  candidate (Step.CallLost p q) h =
      let b = between 1 q n (and_right (leb p n) _ h) in
      put (Step.CallLost p q) (by_call Step.CallLost n) (inr (inr (inr (inr (inr (inl refl)))))) (among_call Step.CallLost n p q (leb-true p n (and_left (leb p n) _ h)) b.0 b.1)
  candidate (Step.Timeout p) h = put (Step.Timeout p) (by_party Step.Timeout n) (inr (inr (inr (inr (inr (inr (inl refl))))))) (among_party Step.Timeout n p (leb-true p n h))
  candidate (Step.Crash p) h = put (Step.Crash p) (by_party Step.Crash n) (inr (inr (inr (inr (inr (inr (inr (inl refl)))))))) (among_party Step.Crash n p (leb-true p n h))
  candidate (Step.Restart p) h = put (Step.Restart p) (by_party Step.Restart n) (inr (inr (inr (inr (inr (inr (inr (inr (inl refl))))))))) (among_party Step.Restart n p (leb-true p n h))

  pub all_candidates : (ss : List Step) → AllInRange n ss → All (λ s. Among s (candidates n)) ss
  all_candidates [] h = tt
  all_candidates (s ∷ ss) h = (candidate s h.0, all_candidates ss h.1)

  -- And every candidate is in range

  abbrev pub Ranged : Step → Type 0
  Ranged s = in_range n s ≡ true

  numbered : (p : ℕ) → 1 ≤ p → p ≤ n → leb 1 p && leb p n ≡ true
  numbered p h l = and_true (leb 1 p) (leb p n) (le-leb 1 p h) (le-leb p n l)

  message_ranged : (f : Message → ℕ → Step) → ((m : Message) (p : ℕ) → 1 ≤ p → p ≤ n → Ranged (f m p)) → All Ranged (by_message f n)
  message_ranged f g =
      all_gather (λ m. tabulate n (λ i. f m (suc i))) Ranged messages
      (all_of (λ m. All Ranged (tabulate n (λ i. f m (suc i)))) (λ m. all_table Ranged n (λ i. f m (suc i)) (λ i h. g m (suc i) (omega arith) (omega arith))) messages)

  call_ranged : (f : ℕ → ℕ → Step) → ((p q : ℕ) → p ≤ n → 1 ≤ q → q ≤ n → Ranged (f p q)) → All Ranged (by_call f n)
  call_ranged f g =
      all_flatten Ranged (tabulate (suc n) (λ p. tabulate n (λ j. f p (suc j))))
      (all_table (All Ranged) (suc n) (λ p. tabulate n (λ j. f p (suc j))) (λ p h. all_table Ranged n (λ j. f p (suc j)) (λ j k. g p (suc j) (omega arith) (omega arith) (omega arith))))

  party_ranged : (f : ℕ → Step) → ((p : ℕ) → p ≤ n → Ranged (f p)) → All Ranged (by_party f n)
  party_ranged f g = all_table Ranged (suc n) f (λ p h. g p (omega arith))

  called : (p q : ℕ) → p ≤ n → 1 ≤ q → q ≤ n → leb p n && (leb 1 q && leb q n) ≡ true
  called p q a b c = and_true (leb p n) _ (le-leb p n a) (numbered q b c)

  pub candidates_ranged : All Ranged (candidates n)
  candidates_ranged =
      all_flatten Ranged (kinds n) (
        (refl, tt),
        (
          message_ranged Step.Deliver (λ m p a b. numbered p a b),
          (
            message_ranged Step.Copy (λ m p a b. numbered p a b),
            (
              message_ranged Step.Lose (λ m p a b. numbered p a b),
              (
                call_ranged Step.Call called,
                (
                  call_ranged Step.CallLost called,
                  (
                    party_ranged Step.Timeout (λ p a. le-leb p n a),
                    (party_ranged Step.Crash (λ p a. le-leb p n a), (party_ranged Step.Restart (λ p a. le-leb p n a), tt)),
                  ),
                ),
              ),
            ),
          ),
        ),
      )

  pub all_ranged : (ss : List Step) → All (λ s. Among s (candidates n)) ss → AllInRange n ss
  all_ranged [] h = tt
  all_ranged (s ∷ ss) h = (all_among Ranged (candidates n) candidates_ranged s h.0, all_ranged ss h.1)

-- In order, by a test that is computed for one and for two sites

abbrev all_below : Step → List Step → Bool
all_below s [] = true
all_below s (t ∷ l) = is_below (record_bytes (step_record s)) (record_bytes (step_record t)) && all_below s l

abbrev ascending : List Step → Bool
ascending [] = true
ascending (s ∷ l) = all_below s l && ascending l

all_below_lem : (s : Step) (l : List Step) → all_below s l ≡ true → All (StepBefore s) l
all_below_lem s [] h = tt
all_below_lem s (t ∷ l) h =
    let b = is_below (record_bytes (step_record s)) (record_bytes (step_record t)) in
    (is_below_lem (record_bytes (step_record s)) (record_bytes (step_record t)) (and_left b _ h), all_below_lem s l (and_right b _ h))

ascends : (l : List Step) → ascending l ≡ true → Ordered StepBefore l
ascends [] h = tt
ascends (s ∷ l) h = (all_below_lem s l (and_left (all_below s l) _ h), ascends l (and_right (all_below s l) _ h))

pub candidates_ordered : (n : ℕ) → n ≤ most_sites → Ordered StepBefore (candidates n)
unfolding flatten tabulate
candidates_ordered zero h = ascends (candidates 0) refl
candidates_ordered (suc zero) h = ascends (candidates 1) refl
candidates_ordered (suc (suc zero)) h = ascends (candidates 2) refl
candidates_ordered (suc (suc (suc n))) h = absurd (omega arith)
