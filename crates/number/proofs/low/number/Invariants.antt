use Rattle.number.proofs.LowBytes.{Reads}
use Rattle.number.proofs.low.number.Given as goal

abbrev pub invariant-loop-byte : goal.invariant-loop-byte
invariant-loop-byte l = Reads l.initial.byte-iterator.iter.rest.now l.width l.byte-iterator.iter.rest.now l.x
