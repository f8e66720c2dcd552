use Rattle.text.proofs.Putting.{Putting}
use Rattle.lines.specs.Lines.{count_text}
use Rattle.lines.proofs.put_counts.Given as goal

-- what is left to put gives what the whole gives
abbrev pub invariant-loop-k : goal.invariant-loop-k
invariant-loop-k l = Putting count_text l.k-items l.initial.text l.place l.text l.at l.k-index
