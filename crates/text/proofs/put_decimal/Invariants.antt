use Rattle.std.proofs.Common.{◌≡◌, ◌-◌, ◌≤◌}
use Rattle.std.proofs.lemmas.List.Edits.{sets}
use Rattle.text.specs.Text.{decimal}
use Rattle.text.proofs.Laws.{last_digits}
use Rattle.text.proofs.put_decimal.Given as goal

-- the digits of what is left end where the last one was put, and with them the text is whole
abbrev pub invariant-loop-at : goal.invariant-loop-at
invariant-loop-at l = (l.place ≤ l.at) × (sets l.text l.place (last_digits (l.at - l.place) l.rest) ≡ sets l.initial.text l.place (decimal l.n))
