-- Lengths of the parts of a line, and one turn of the loops over counts and logs. Assumes nothing.
use mathlib.Core.Path.{◌≡◌, refl}
use mathlib.Core.List.{List}
use Prim.Native.Nat.{ℕ, suc, ◌+◌, ◌<◌}
use native.Mathlib.Numerals.{add-one}
use native.Mathlib.Omega.{arith}
use lib.ListN.{length, get_or, drop, length-append}
use lib.Seq.{drop-cons}
use Rattle.store.specs.Log.{empty}
use Rattle.text.specs.Text.{ascii, decimal}
use Rattle.text.specs.Put.{Put, each}
use Rattle.text.proofs.Putting.{Putting, put_then, put_next}
use Rattle.lines.specs.Types.{LogRecord, LogPair}
use Rattle.lines.specs.Lines.{count_text, record_text, log_text}

pub record_one : (r : LogRecord) → length (record_text r) ≡ 1
record_one LogRecord.None = refl
record_one LogRecord.Yes = refl
record_one LogRecord.Abort = refl
record_one LogRecord.Commit = refl

pub log_three : (l : LogPair) → length (log_text l) ≡ 3
log_three l = omega (arith, length-append (record_text l.first) (record_text l.last), record_one l.first, record_one l.last)

-- Loops over counts and over logs: how long what is left is, and one turn

each_first : {A : Type 0} (f : A → List ℕ) (xs : List A) (i : ℕ) (d : A) → i < length xs
    → length (each f (drop i xs)) ≡ length (f (get_or xs i d)) + length (each f (drop (i + 1) xs))
unfolding each
each_first f xs i d some =
    rw (add-one i) (rw (drop-cons xs i d some) (length-append (f (get_or xs i d)) (each f (drop (suc i) xs))))

pub count_long : (calls : List ℕ) (i : ℕ) → i < length calls
    → length (each count_text (drop i calls)) ≡ 1 + length (decimal (get_or calls i 0)) + length (each count_text (drop (i + 1) calls))
count_long calls i some = omega (arith, each_first count_text calls i 0 some)

pub log_long : (logs : List LogPair) (i : ℕ) → i < length logs
    → length (each log_text (drop i logs)) ≡ 3 + length (each log_text (drop (i + 1) logs))
log_long logs i some = omega (arith, each_first log_text logs i empty some, log_three (get_or logs i empty))

pub count_next : (calls out₀ out between after : List ℕ) (place at middle next i : ℕ)
    → Putting count_text calls out₀ place out at i → i < length calls
    → Put out at (ascii " ") middle between → Put between middle (decimal (get_or calls i 0)) next after
    → Putting count_text calls out₀ place after next (i + 1)
count_next calls out₀ out between after place at middle next i g some p q =
    let put = put_then p q in
    rw (put.ends, put.leaves) (put_next count_text calls out₀ place out at i g 0 some)

pub log_next : (logs : List LogPair) (out₀ out after : List ℕ) (place at next i : ℕ)
    → Putting log_text logs out₀ place out at i → i < length logs
    → Put out at (log_text (get_or logs i empty)) next after
    → Putting log_text logs out₀ place after next (i + 1)
log_next logs out₀ out after place at next i g some put = rw (put.ends, put.leaves) (put_next log_text logs out₀ place out at i g empty some)
