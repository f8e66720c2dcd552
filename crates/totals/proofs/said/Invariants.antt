use Rattle.std.proofs.Common.{◌≡◌, ◌||◌, drop}
use Rattle.figures.specs.Figures.{said_in}
use Rattle.totals.proofs.said.Given as goal

-- whether one was found, or is yet to be
abbrev pub invariant-loop-b : goal.invariant-loop-b
invariant-loop-b l = l.found || said_in l.o (drop l.b-index l.bytes) ≡ said_in l.o l.bytes
