use Rattle.std.proofs.Common.{◌-◌, length}
use Rattle.print_sheet.proofs.Laws.{Printing}
use Rattle.print_sheet.proofs.put_lines.Given as goal

-- what is left to put gives what the whole gives
abbrev pub invariant-loop-at : goal.invariant-loop-at
invariant-loop-at l = Printing l.schedules l.initial.text l.text l.place l.at

abbrev pub decreases-loop-at : goal.decreases-loop-at
decreases-loop-at l = length l.schedules - l.at
