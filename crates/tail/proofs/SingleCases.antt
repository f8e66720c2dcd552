-- The single step where it is taken. Assumes nothing.
use mathlib.Core.Path.{◌≡◌, refl}
use mathlib.Core.Bool.{true}
use Prim.Native.Nat.{ℕ}
use Rattle.number.proofs.Laws.{and_true}
use Rattle.kind.specs.Step.{step_of, numbers_in_range}
use Rattle.rules.specs.Report.{moves, step_byte}
use Rattle.rules.specs.Step.{step}
use Rattle.rules.specs.Run.{count_limit}
use Rattle.tail.specs.Tail.{tail_of, release_of, tail_in_range}
use Rattle.tail.specs.Single.{done, handed, single_step}
use Rattle.tail.specs.Types.{Kind, Tail, Report}

pub handed_moved : (t : Tail) (r : Report) (x : Tail) (k : ℕ) → moves r.outcome ≡ true → x ≡ tail_of r.next → k ≡ step_byte r → done x k ≡ handed t r
handed_moved t r x k m p q = rw (m, p, q) refl

pub single_taken : (t : Tail) (k a b : ℕ) → tail_in_range Kind.WideHeader count_limit t ≡ true → numbers_in_range t.n k a b ≡ true → handed t (step (release_of t) (step_of k a b)) ≡ single_step t k a b
single_taken t k a b p q = rw (and_true (tail_in_range Kind.WideHeader count_limit t) (numbers_in_range t.n k a b) p q) refl
