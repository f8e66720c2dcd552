use Rattle.std.proofs.Common.{◌≡◌, ◌+◌, get_or}
use Rattle.number.proofs.Table.{up_to}
use Rattle.totals.proofs.add_calls.Given as goal

-- the entries before this one have their calls
abbrev pub invariant-loop-p : goal.invariant-loop-p
invariant-loop-p l = l.column ≡ up_to l.p (λ q. get_or l.initial.column q 0 + get_or l.calls q 0) l.initial.column
