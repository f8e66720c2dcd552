use Rattle.std.proofs.Common.{◌≡◌, ◌-◌, ◌++◌, take}
use Rattle.number.specs.Low.{low_bytes}
use Rattle.number.proofs.low.put_each.Given as goal

-- the bytes put, and those of what is left
abbrev pub invariant-loop-byte : goal.invariant-loop-byte
invariant-loop-byte l = take l.byte-index l.part ++ low_bytes (l.width - l.byte-index) l.rest ≡ low_bytes l.width l.x
