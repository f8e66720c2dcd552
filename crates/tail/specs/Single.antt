-- The single step: a whole release's state, with the fields of the tail, and one step by its kind and the two numbers of its body. Assumes nothing.
use Rattle.std.specs.Prelude.{◌≡◌, true, cond, ◌&&◌, List, ℕ, ◌≤◌, Result, Ok, Err}
use Rattle.number.specs.Refusal.{refusal_number, accepted}
use Rattle.mask.specs.Mask.{within}
use Rattle.store.specs.Log.{places}
use Rattle.kind.specs.Kind.{room}
use Rattle.kind.specs.Step.{step_number, first_number, second_number, step_of, in_range, numbers_in_range, AllInRange}
use Rattle.rules.specs.State.{fresh}
use Rattle.rules.specs.Report.{moves, step_byte}
use Rattle.rules.specs.Step.{step}
use Rattle.rules.specs.Run.{after, count_limit, Countable}
use Rattle.tail.specs.Tail.{tail_of, release_of, tail_in_range}
use Rattle.tail.specs.Types.{Kind, Tail, Step, Report, Stepped, Refusal}

-- what it hands over: the refusal's number or 0, the state after the step or as given, and the report byte or 0
pub record StepHanded : Type 0 where
  pub number : ℕ
  pub state : Tail
  pub byte : ℕ

abbrev pub done : Tail → ℕ → StepHanded
done next byte = record { number = accepted; state = next; byte = byte }

-- a refusal hands the state back as given
abbrev pub refused : Refusal → Tail → StepHanded
refused k t = record { number = refusal_number k; state = t; byte = 0 }

-- what its answer for a state stands for
abbrev pub answered : Tail → Result Stepped Refusal → StepHanded
answered t (Ok s) = done s.state s.byte
answered t (Err k) = refused k t

-- the report byte and the next state; 7 where the step is not due
abbrev pub handed : Tail → Report → StepHanded
handed t r = cond (moves r.outcome) (done (tail_of r.next) (step_byte r)) (refused Refusal.NotDue t)

-- Order: 5, 7. A call count of 65,535 is out of range
abbrev pub single_step : Tail → ℕ → ℕ → ℕ → StepHanded
single_step t kind a b =
    cond (tail_in_range Kind.WideHeader count_limit t && numbers_in_range t.n kind a b) (handed t (step (release_of t) (step_of kind a b))) (refused Refusal.OutOfRange t)

-- From every release that a run reaches, with counts in range, the single step is the step of the rules. Proved in proofs/Follows.antt
abbrev pub SingleStepFollows : Type 0
SingleStepFollows =
    (n votes : ℕ) → 1 ≤ n → n ≤ room Kind.WideHeader → within n votes ≡ true → (steps : List Step) → AllInRange n steps → (s : Step) → in_range n s ≡ true
    → Countable (after (fresh places n votes) steps).calls
    → single_step (tail_of (after (fresh places n votes) steps)) (step_number s) (first_number s) (second_number s)
    ≡ handed (tail_of (after (fresh places n votes) steps)) (step (after (fresh places n votes) steps) s)
