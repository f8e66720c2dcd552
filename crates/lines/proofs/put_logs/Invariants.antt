use Rattle.text.proofs.Putting.{Putting}
use Rattle.lines.specs.Lines.{log_text}
use Rattle.lines.proofs.put_logs.Given as goal

-- what is left to put gives what the whole gives
abbrev pub invariant-loop-log : goal.invariant-loop-log
invariant-loop-log l = Putting log_text l.log-items l.initial.text l.place l.text l.at l.log-index
