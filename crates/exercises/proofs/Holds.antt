-- Every sheet is sound, complete, in ascending order and has no schedule twice, over the bytes that the reader accepts. Assumes nothing.
use mathlib.Core.Path.{◌≡◌, subst}
use mathlib.Core.Bool.{true}
use mathlib.Core.List.{List, [], ◌∷◌}
use Prim.Native.Nat.{ℕ, ◌*◌, ◌≤◌, ◌<◌}
use native.Mathlib.Omega.{arith}
use native.Mathlib.Decide.{dec_lt}
use lib.Dec.{leb, lit≤}
use lib.ListN.{length, length-append}
use borrow.Author.Tests.{leb-true}
use Rattle.number.proofs.Laws.{and_left, and_right}
use Rattle.schedule.specs.Record.{header_in_range, step_record, header_record, record_bytes, longest}
use Rattle.schedule.specs.Schedule.{steps_bytes, schedule_bytes}
use Rattle.schedule.proofs.RoundTrip.{steps_kept, bytes_kept, read_in_range, bytes_fit}
use Rattle.passes.specs.Pass.{fresh_of}
use Rattle.exercises.specs.Types.{Step, Header}
use Rattle.exercises.specs.Sheet.{candidates, due_lists, sheet, header_for, in_bounds, most_sites, most_steps}
use Rattle.exercises.specs.Promises.{Exercise, Below, at, SheetHolds, EverySheet}
use Rattle.exercises.proofs.Lists.{All, Among, Ordered, all_map, all_at, all_through, among_map, place_of, ordered_map, ordered_at}
use Rattle.exercises.proofs.Order.{below_after, below_self}
use Rattle.exercises.proofs.DueLists.{Listed, StepsBefore, lists_sound, lists_complete, lists_ordered}
use Rattle.exercises.proofs.Candidates.{all_candidates, all_ranged, candidates_ordered}

-- what the bounds say

pub record Bounds (n votes k : ℕ) : Type 0 where
  pub header : header_in_range (header_for n votes) ≡ true
  pub sites : n ≤ most_sites
  pub few : k ≤ most_steps

pub bounds : (n votes k : ℕ) → in_bounds n votes k ≡ true → Bounds n votes k
bounds n votes k q =
    let b = and_right (header_in_range (header_for n votes)) _ q in
    record { header = and_left (header_in_range (header_for n votes)) _ q; sites = leb-true n most_sites (and_left (leb n most_sites) _ b); few = leb-true k most_steps (and_right (leb n most_sites) _ b) }

-- a step has at most three bytes

pub step_short : (s : Step) → length (record_bytes (step_record s)) ≤ 3
step_short Step.Start = lit≤ tt
step_short (Step.Deliver m p) = lit≤ tt
step_short (Step.Copy m p) = lit≤ tt
step_short (Step.Lose m p) = lit≤ tt
step_short (Step.Call p q) = lit≤ tt
step_short (Step.CallLost p q) = lit≤ tt
step_short (Step.Timeout p) = lit≤ tt
step_short (Step.Crash p) = lit≤ tt
step_short (Step.Restart p) = lit≤ tt

steps_short : (ss : List Step) → length (steps_bytes ss) ≤ 3 * length ss
steps_short [] = omega arith
steps_short (s ∷ ss) = omega (arith, length-append (record_bytes (step_record s)) (steps_bytes ss), step_short s, steps_short ss)

module _ {n votes k : ℕ} (b : Bounds n votes k) where
  abbrev h : Header
  h = header_for n votes

  abbrev lists : List (List Step)
  lists = due_lists (candidates n) k (fresh_of h)

  pub schedule_short : (ss : List Step) → length ss ≡ k → length (schedule_bytes h ss) ≤ longest
  schedule_short ss long = omega (arith, length-append (record_bytes (header_record h)) (steps_bytes ss), steps_short ss, long, b.few)

  exercise : (ss : List Step) → Listed (candidates n) k (fresh_of h) ss → Exercise h k (schedule_bytes h ss)
  exercise ss l =
      record {
        steps = ss;
        are_bytes = bytes_fit h ss;
        accepted = steps_kept h ss b.header (all_ranged n ss l.ours) (schedule_short ss l.long);
        long = l.long;
        due = l.due;
      }

  all_exercises : All (Exercise h k) (sheet h k)
  all_exercises =
      all_through (schedule_bytes h) (Exercise h k) lists
      (all_map (Listed (candidates n) k (fresh_of h)) (λ ss. Exercise h k (schedule_bytes h ss)) exercise lists (lists_sound (candidates n) k (fresh_of h)))

  found : (bytes : List ℕ) → Exercise h k bytes → Among bytes (sheet h k)
  found bytes e =
      let ranged = (read_in_range bytes h e.steps e.accepted).1 in
      let listed = lists_complete (candidates n) k (fresh_of h) e.steps e.long (all_candidates n e.steps ranged) e.due in
      subst (λ l. Among l (sheet h k)) (bytes_kept bytes e.are_bytes h e.steps e.accepted) (among_map (schedule_bytes h) e.steps lists listed)

  ascending : Ordered Below (sheet h k)
  ascending =
      ordered_map (schedule_bytes h) StepsBefore Below (λ xs ys o. below_after (record_bytes (header_record h)) (steps_bytes xs) (steps_bytes ys) o) lists
      (lists_ordered (candidates n) (candidates_ordered n b.sites) k (fresh_of h))

  in_order : (i j : ℕ) → i < j → j < length (sheet h k) → Below (at (sheet h k) i) (at (sheet h k) j)
  in_order i j = ordered_at Below (sheet h k) [] ascending i j

  -- of two places the one before has the lower bytes
  same_place : (i j : ℕ) → i < length (sheet h k) → j < length (sheet h k) → at (sheet h k) i ≡ at (sheet h k) j → i ≡ j
  same_place i j p q e = go (dec_lt i j) (dec_lt j i)
    where
      go : Dec (i < j) → Dec (j < i) → i ≡ j
      go (yes l) m = absurd (below_self (at (sheet h k) j) (subst (λ x. Below x (at (sheet h k) j)) e (in_order i j l q)))
      go (no l) (yes m) = absurd (below_self (at (sheet h k) j) (subst (λ x. Below (at (sheet h k) j) x) e (in_order j i m p)))
      go (no l) (no m) = omega (arith, l, m)

  pub holds : SheetHolds h k (sheet h k)
  holds =
      record {
        sound = all_at (Exercise h k) (sheet h k) [] all_exercises;
        complete = λ bytes e. place_of bytes (sheet h k) [] (found bytes e);
        ordered = in_order;
        once = same_place;
      }

pub every_sheet : EverySheet
every_sheet n votes k q = holds (bounds n votes k q)
