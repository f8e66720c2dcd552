-- The lists of due steps, from any release: sound, complete, and in the order of their bytes where the steps are. Assumes nothing.
use mathlib.Core.Path.{◌≡◌, refl, sym, ap}
use mathlib.Core.Logic.{inl}
use mathlib.Core.Bool.{Bool, true, false, true≢false, cond}
use mathlib.Core.List.{List, [], ◌∷◌, map}
use Prim.Native.Nat.{ℕ, zero, suc}
use native.Mathlib.Omega.{arith}
use lib.ListN.{length}
use Rattle.schedule.specs.Record.{step_record, record_bytes}
use Rattle.schedule.specs.Schedule.{steps_bytes}
use Rattle.rules.specs.Step.{step, is_due}
use Rattle.exercises.specs.Types.{Step, Release}
use Rattle.exercises.specs.Sheet.{if_due, due_lists}
use Rattle.exercises.specs.Promises.{AllDue, Below}
use Rattle.exercises.proofs.Lists.{All, Among, Ordered, all_map, all_of, all_own, all_gather, all_through, among_gather, among_map, ordered_gather, ordered_map}
use Rattle.exercises.proofs.Order.{below_before, below_after}

-- Sound: k steps, each one of these and due when its turn comes

pub record Listed (steps : List Step) (k : ℕ) (r : Release) (ss : List Step) : Type 0 where
  pub long : length ss ≡ k
  pub ours : All (λ s. Among s steps) ss
  pub due : AllDue r ss

module _ (steps : List Step) where
  one_sound : (k : ℕ) (r : Release) (s : Step) → Among s steps → (b : Bool) → is_due r s ≡ b → (l : List (List Step))
      → All (Listed steps k (step r s).next) l → All (Listed steps (suc k) r) (cond b (map (λ ss. s ∷ ss) l) [])
  one_sound k r s m true q l h =
      all_through (λ ss. s ∷ ss) (Listed steps (suc k) r) l
      (all_map (Listed steps k (step r s).next) (λ ss. Listed steps (suc k) r (s ∷ ss)) (λ ss t. record { long = ap suc t.long; ours = (m, t.ours); due = (q, t.due) }) l h)
  one_sound k r s m false q l h = tt

  pub lists_sound : (k : ℕ) (r : Release) → All (Listed steps k r) (due_lists steps k r)
  unfolding due_lists
  lists_sound zero r = (record { long = refl; ours = tt; due = tt }, tt)
  lists_sound (suc k) r =
      all_gather (λ s. if_due r s (due_lists steps k (step r s).next)) (Listed steps (suc k) r) steps
      (all_map (λ s. Among s steps) (λ s. All (Listed steps (suc k) r) (if_due r s (due_lists steps k (step r s).next)))
      (λ s m. one_sound k r s m (is_due r s) refl (due_lists steps k (step r s).next) (lists_sound k (step r s).next)) steps (all_own steps))

  -- Complete: all of them

  one_complete : (s : Step) (ss : List Step) (b : Bool) → b ≡ true → (l : List (List Step)) → Among ss l → Among (s ∷ ss) (cond b (map (λ ss. s ∷ ss) l) [])
  one_complete s ss true q l m = among_map (λ ss. s ∷ ss) ss l m
  one_complete s ss false q l m = absurd (true≢false (sym q))

  pub lists_complete : (k : ℕ) (r : Release) (ss : List Step) → length ss ≡ k → All (λ s. Among s steps) ss → AllDue r ss → Among ss (due_lists steps k r)
  unfolding due_lists
  lists_complete zero r [] e m d = inl refl
  lists_complete zero r (s ∷ ss) e m d = absurd (omega arith)
  lists_complete (suc k) r [] e m d = absurd (omega arith)
  lists_complete (suc k) r (s ∷ ss) e m d =
      among_gather (λ s. if_due r s (due_lists steps k (step r s).next)) (s ∷ ss) s steps m.0
      (one_complete s ss (is_due r s) d.0 (due_lists steps k (step r s).next) (lists_complete k (step r s).next ss (omega arith) m.1 d.1))

-- Ordered, by the bytes of their records

abbrev pub StepBefore : Step → Step → Type 0
StepBefore s t = Below (record_bytes (step_record s)) (record_bytes (step_record t))

abbrev pub StepsBefore : List Step → List Step → Type 0
StepsBefore xs ys = Below (steps_bytes xs) (steps_bytes ys)

one_ordered : (b : Bool) (s : Step) (l : List (List Step)) → Ordered StepsBefore l → Ordered StepsBefore (cond b (map (λ ss. s ∷ ss) l) [])
one_ordered true s l o = ordered_map (λ ss. s ∷ ss) StepsBefore StepsBefore (λ xs ys h. below_after (record_bytes (step_record s)) (steps_bytes xs) (steps_bytes ys) h) l o
one_ordered false s l o = tt

before_one : (s t : Step) (xs : List Step) → StepBefore s t → (c : Bool) (m : List (List Step)) → All (StepsBefore (s ∷ xs)) (cond c (map (λ ss. t ∷ ss) m) [])
before_one s t xs h true m =
    all_through (λ ss. t ∷ ss) (StepsBefore (s ∷ xs)) m
    (all_of (λ ys. StepsBefore (s ∷ xs) (t ∷ ys)) (λ ys. below_before (record_bytes (step_record s)) (record_bytes (step_record t)) (steps_bytes xs) (steps_bytes ys) h) m)
before_one s t xs h false m = tt

across : (s t : Step) → StepBefore s t → (b c : Bool) (l m : List (List Step))
    → All (λ u. All (StepsBefore u) (cond c (map (λ ss. t ∷ ss) m) [])) (cond b (map (λ ss. s ∷ ss) l) [])
across s t h true c l m =
    all_through (λ ss. s ∷ ss) (λ u. All (StepsBefore u) (cond c (map (λ ss. t ∷ ss) m) [])) l
    (all_of (λ xs. All (StepsBefore (s ∷ xs)) (cond c (map (λ ss. t ∷ ss) m) [])) (λ xs. before_one s t xs h c m) l)
across s t h false c l m = tt

pub lists_ordered : (steps : List Step) → Ordered StepBefore steps → (k : ℕ) (r : Release) → Ordered StepsBefore (due_lists steps k r)
unfolding due_lists
lists_ordered steps o zero r = (tt, tt)
lists_ordered steps o (suc k) r =
    ordered_gather (λ s. if_due r s (due_lists steps k (step r s).next)) StepBefore StepsBefore
    (λ s. one_ordered (is_due r s) s (due_lists steps k (step r s).next) (lists_ordered steps o k (step r s).next))
    (λ s t h. across s t h (is_due r s) (is_due r t) (due_lists steps k (step r s).next) (due_lists steps k (step r t).next))
    steps o
