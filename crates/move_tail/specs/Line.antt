-- What program `move_tail` prints for the tail that it reads: the one of 320 bytes in lower-case hexadecimal, or `refused K at 0`. Assumes nothing.
use Rattle.std.specs.Prelude.{List, ◌++◌, ℕ, suc, ◌*◌, Option, Some, None}
use Rattle.number.specs.declared.Refusal.{Refusal}
use Rattle.number.specs.Refusal.{refusal_number}
use Rattle.text.specs.Text.{ascii, hexadecimal, refusal_line}
use Rattle.kind.specs.declared.Kind.{Kind}
use Rattle.form.specs.Form.{wide, tail_length}
use Rattle.start.specs.Start.{tail_refusal}
use Rattle.start.specs.Move.{moved_bytes}

-- a line, unless the tail is refused
abbrev pub line_unless : Option Refusal → List ℕ → List ℕ
line_unless None line = line
line_unless (Some k) line = refusal_line (refusal_number k) 0

abbrev pub moved_line : List ℕ → List ℕ
moved_line tail = line_unless (tail_refusal Kind.Header tail) (hexadecimal (moved_bytes tail) ++ ascii "\n")

-- two digits a byte, and the line's end
abbrev pub longest_line : ℕ
longest_line = suc (2 * tail_length wide)
