-- Request 2026-06, the schedules of a class file: a header inside it begins the next one. Records are passed over by the lengths of their kinds.
-- Assumes nothing.
use Rattle.std.specs.Prelude.{cond, List, [], ◌∷◌, ℕ, zero, suc, length, take, drop}
use Rattle.kind.specs.Kind.{kind_of, body_length, is_header}

-- how many bytes the first schedule still has, of which the first `skip` belong to the record before. `kind_of` takes an unknown kind for a header, so
-- that one begins a part too; the part is refused there by its kind, as the record is wherever it stands
unfoldable pub rest_length : List ℕ → ℕ → ℕ
rest_length [] skip = 0
rest_length (x ∷ bytes) (suc skip) = suc (rest_length bytes skip)
rest_length (x ∷ bytes) zero = cond (is_header (kind_of x)) 0 (suc (rest_length bytes (body_length (kind_of x))))

-- the first record is its header, or is refused
abbrev pub part_length : List ℕ → ℕ
part_length [] = 0
part_length (x ∷ bytes) = suc (rest_length bytes (body_length (kind_of x)))

-- all of them, of a file with at most so many bytes
unfoldable pub parts_up_to : ℕ → List ℕ → List (List ℕ)
parts_up_to zero file = []
parts_up_to (suc most) [] = []
parts_up_to (suc most) (x ∷ file) = take (part_length (x ∷ file)) (x ∷ file) ∷ parts_up_to most (drop (part_length (x ∷ file)) (x ∷ file))

abbrev pub parts : List ℕ → List (List ℕ)
parts file = parts_up_to (length file) file
