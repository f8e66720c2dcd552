-- The numbers of records and the way back belong together. Assumes nothing.
use mathlib.Core.Path.{◌≡◌, refl}
use Prim.Native.Nat.{◌≤◌}
use lib.Dec.{lit≤}
use Rattle.number.specs.Numbering.{Inverse}
use Rattle.number.proofs.Laws.{inverse}
use Rattle.store.specs.Types.{LogRecord, None, Yes, Abort, Commit}
use Rattle.store.specs.Log.{record_number, record_of}

record_back : (r : LogRecord) → record_of (record_number r) ≡ r
record_back None = refl
record_back Yes = refl
record_back Abort = refl
record_back Commit = refl

pub record_numbers : Inverse record_number record_of
record_numbers = inverse record_number record_of record_back

pub record_most : (r : LogRecord) → record_number r ≤ 3
record_most None = lit≤ tt
record_most Yes = lit≤ tt
record_most Abort = lit≤ tt
record_most Commit = lit≤ tt
