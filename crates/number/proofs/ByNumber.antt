-- An answer whose refusal is taken to its number, as `map_err` does. Assumes nothing.
use mathlib.Core.Path.{◌≡◌, ap}
use Rattle.std.specs.Prelude.{Result, Ok, Err, MatchResult, IsErrAnd}
use Rattle.number.specs.Types.{Refused, Numbered}
use Rattle.number.specs.Refusal.{by_number, with_number}

pub numbered_answer : {A : Type 0} (x : Result A Refused) (y : Result A Numbered) → MatchResult x (λ v. y ≡ Ok v) (λ r. IsErrAnd y (λ n. n ≡ by_number r))
    → y ≡ with_number x
numbered_answer (Ok v) y m = m
numbered_answer (Err r) (Ok v) m = absurd m
numbered_answer (Err r) (Err n) m = ap (λ (k : Numbered). Err k) m
