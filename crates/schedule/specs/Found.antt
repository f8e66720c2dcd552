-- The reader's first three tests, as the code makes them: whether there are bytes, of a known kind, and the whole body. Assumes nothing.
use Rattle.std.specs.Prelude.{cond, List, ℕ, eqb, leb, length, get_or, Result, Ok, Err}
use Rattle.kind.specs.Kind.{kind_of, is_kind, body_length}
use Rattle.schedule.specs.Types.{Kind, Refusal}

abbrev pub found_kind : List ℕ → Kind → Result Kind Refusal
found_kind bytes k = cond (leb (length bytes) (body_length k)) (Err Refusal.BodyCutShort) (Ok k)

abbrev pub kind_at : List ℕ → Result Kind Refusal
kind_at bytes =
    cond (eqb (length bytes) 0) (Err Refusal.EmptyOrTooLong)
    (cond (is_kind (get_or bytes 0 0)) (found_kind bytes (kind_of (get_or bytes 0 0))) (Err Refusal.UnknownKind))
