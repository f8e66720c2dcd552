-- `sheet::put_steps` meets its contract: what is left to put, after what was put, is the whole. Assumes nothing.
use Rattle.text.proofs.Putting.{Putting}
use Rattle.sheet.specs.Level.{choices, choice_bytes}
use Rattle.sheet.proofs.put_steps.Given as goal

abbrev pub invariant-loop-c : goal.invariant-loop-c
invariant-loop-c l = Putting (choice_bytes l.n) choices l.initial.out 0 l.out l.at l.c
