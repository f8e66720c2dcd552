-- What program `print_sheet` prints: a line for each schedule of the sheet, or the refusal's line. Assumes nothing.
use Rattle.std.specs.Prelude.{cond, List, [], ◌∷◌, ℕ, ◌*◌, ◌/◌, ◌%◌, eqb, length, get_or}
use Rattle.number.specs.Refusal.{refusal_number}
use Rattle.number.specs.declared.Refusal.{Refusal}
use Rattle.text.specs.Text.{digit, refusal_line}
use Rattle.text.specs.Put.{each}
use Rattle.exercises.specs.Sheet.{sheet, header_for, in_bounds}
use Rattle.exercises.specs.Promises.{longest_sheet}

-- after a byte comes a space, or the line's end where no byte is left
abbrev pub separator : ℕ → ℕ
separator left = cond (eqb left 0) 10 32

-- bytes in lower-case hexadecimal, two digits each
unfoldable pub line_of : List ℕ → List ℕ
line_of [] = []
line_of (b ∷ bytes) = digit (b / 16) ∷ digit (b % 16) ∷ separator (length bytes) ∷ line_of bytes

-- a line a schedule; a sheet outside its bounds has the line of its refusal
abbrev pub sheet_text : ℕ → ℕ → ℕ → List ℕ
sheet_text n votes k = cond (in_bounds n votes k) (each line_of (sheet (header_for n votes) k)) (refusal_line (refusal_number Refusal.OutOfRange) 0)

-- the input has n, the vote mask and k; a byte that is missing counts as 0
abbrev pub asked_text : List ℕ → List ℕ
asked_text asked = sheet_text (get_or asked 0 0) (get_or asked 1 0) (get_or asked 2 0)

-- three characters a byte
abbrev pub longest_text : ℕ
longest_text = 3 * longest_sheet
