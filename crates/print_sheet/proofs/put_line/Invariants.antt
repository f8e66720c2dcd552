use Rattle.print_sheet.proofs.Laws.{LineLeft}
use Rattle.print_sheet.proofs.put_line.Given as goal

-- what is left to put gives what the whole gives
abbrev pub invariant-loop-i : goal.invariant-loop-i
invariant-loop-i l = LineLeft l.bytes l.initial.text l.place l.text l.at l.i
