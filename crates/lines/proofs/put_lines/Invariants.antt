use Rattle.lines.proofs.LineLaws.{LinesLeft}
use Rattle.lines.proofs.put_lines.Given as goal

-- what is left to put gives what the whole gives
abbrev pub invariant-loop-i : goal.invariant-loop-i
invariant-loop-i l = LinesLeft l.bytes l.initial.text l.text l.at l.i
