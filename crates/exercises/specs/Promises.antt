-- What is promised of every sheet, about the bytes that the reader accepts: sound, complete, ordered, each schedule once. Proved in proofs/. Assumes
-- nothing.
use Rattle.std.specs.Prelude.{◌≡◌, ◌≢◌, ◌⊎◌, true, List, [], ◌∷◌, map, ℕ, ◌≤◌, ◌<◌, length, get_or}
use Rattle.schedule.specs.Schedule.{Accepted, read_schedule}
use Rattle.schedule.specs.RoundTrip.{AllBytes}
use Rattle.rules.specs.Step.{step, is_due}
use Rattle.passes.specs.Pass.{fresh_of, step_bytes}
use Rattle.parts.specs.Parts.{parts}
use Rattle.figures.specs.Class.{Schedule, Class, read_class}
use Rattle.exercises.specs.Types.{Step, Header, Release}
use Rattle.exercises.specs.Sheet.{candidates, due_lists, sheet, sheet_bytes, header_for, in_bounds}

-- "each step due when its turn comes": in the state that the step before it left
abbrev pub AllDue : Release → List Step → Type 0
AllDue r [] = Unit {0}
AllDue r (s ∷ ss) = (is_due r s ≡ true) × AllDue (step r s).next ss

-- as the marker reports it: of steps that are due in turn no byte is 0, idle; and where no byte is, each is due in its turn

abbrev pub NoneIdle : List ℕ → Type 0
NoneIdle [] = Unit {0}
NoneIdle (b ∷ bytes) = (b ≢ 0) × NoneIdle bytes

pub record DueReported : Type 0 where
  pub none_idle : (r : Release) (steps : List Step) → AllDue r steps → NoneIdle (step_bytes r steps)
  pub all_due : (r : Release) (steps : List Step) → NoneIdle (step_bytes r steps) → AllDue r steps

-- bytes that the reader accepts under that header, with exactly k steps, each due when its turn comes
pub record Exercise (h : Header) (k : ℕ) (bytes : List ℕ) : Type 0 where
  pub steps : List Step
  pub are_bytes : AllBytes bytes
  pub accepted : read_schedule bytes ≡ Accepted h steps
  pub long : length steps ≡ k
  pub due : AllDue (fresh_of h) steps

-- "in ascending order of their bytes": at the first place where they differ, these have the smaller byte. There is such a place, so neither begins
-- the other
abbrev pub Below : List ℕ → List ℕ → Type 0
Below [] ys = ⊥
Below (x ∷ xs) [] = ⊥
Below (x ∷ xs) (y ∷ ys) = (x < y) ⊎ ((x ≡ y) × Below xs ys)

-- schedule i of a sheet, counted from 0
abbrev pub at : List (List ℕ) → ℕ → List ℕ
at schedules i = get_or schedules i []

pub record SheetHolds (h : Header) (k : ℕ) (schedules : List (List ℕ)) : Type 0 where
  -- each of them is such an exercise, and every such exercise is one of them
  pub sound : (i : ℕ) → i < length schedules → Exercise h k (at schedules i)
  pub complete : (bytes : List ℕ) → Exercise h k bytes → (i : ℕ) × (i < length schedules) × (at schedules i ≡ bytes)
  -- in ascending order, each exactly once
  pub ordered : (i j : ℕ) → i < j → j < length schedules → Below (at schedules i) (at schedules j)
  pub once : (i j : ℕ) → i < length schedules → j < length schedules → at schedules i ≡ at schedules j → i ≡ j

abbrev pub EverySheet : Type 0
EverySheet = (n votes k : ℕ) → in_bounds n votes k ≡ true → SheetHolds (header_for n votes) k (sheet (header_for n votes) k)

-- "the schedules' bytes one after another": a class file. Cut at its headers it gives back these schedules, and each is read to its steps

abbrev pub schedules_of : Header → ℕ → List Schedule
schedules_of h k = map (λ steps. record { header = h; steps = steps }) (due_lists (candidates h.n) k (fresh_of h))

pub record IsClass (h : Header) (k : ℕ) : Type 0 where
  pub cut : parts (sheet_bytes h k) ≡ sheet h k
  pub read : read_class (sheet_bytes h k) ≡ Class (schedules_of h k)

abbrev pub SheetIsClass : Type 0
SheetIsClass = (n votes k : ℕ) → in_bounds n votes k ≡ true → IsClass (header_for n votes) k

-- every sheet has a schedule; a buffer of this length has room for every sheet, and the longest has just as many bytes

abbrev pub longest_sheet : ℕ
longest_sheet = 3039

pub record SheetFits : Type 0 where
  pub some : (n votes k : ℕ) → in_bounds n votes k ≡ true → 0 < length (sheet (header_for n votes) k)
  pub fits : (n votes k : ℕ) → in_bounds n votes k ≡ true → length (sheet_bytes (header_for n votes) k) ≤ longest_sheet
  pub longest : length (sheet_bytes (header_for 2 3) 3) ≡ longest_sheet
