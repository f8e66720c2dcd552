use Rattle.text.proofs.Putting.{Putting}
use Rattle.summary.specs.Summary.{party_line, parties}
use Rattle.summary.proofs.put_column.Given as goal

-- what is left to put gives what the whole gives
abbrev pub invariant-loop-p : goal.invariant-loop-p
invariant-loop-p l = Putting (party_line l.fn.column) (parties l.sites) l.initial.text l.place l.text l.at l.p
