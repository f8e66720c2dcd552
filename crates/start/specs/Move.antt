-- Request 2026-04: a tail of 59 bytes is turned into one of 320. Order of refusals: 10, 5, 6. Assumes nothing.
use Rattle.std.specs.Prelude.{List, ℕ, length, Option, Some, None, Result, Ok, Err}
use Rattle.std.proofs.lemmas.List.Edits.{sets}
use Rattle.number.specs.Refusal.{Handed, refused}
use Rattle.writer.specs.Writer.{room_answer, written_hands}
use Rattle.form.specs.Form.{narrow, wide, tail_bytes, tail_length, tail_at}
use Rattle.start.specs.Types.{Kind, Refusal, Refused}
use Rattle.start.specs.Start.{tail_refusal}

-- the fields of the narrow tail, in the wide form
abbrev pub moved_bytes : List ℕ → List ℕ
moved_bytes tail = tail_bytes wide (tail_at narrow tail)

-- what the move answers, with a buffer of `room` bytes: the length written; 10 or 5 with 0; or 6 with the length needed

abbrev pub move_with : Option Refusal → Result ℕ Refused → Result ℕ Refused
move_with None x = x
move_with (Some k) x = Err (refused k 0)

abbrev pub move_answers : ℕ → List ℕ → Result ℕ Refused
move_answers room tail = move_with (tail_refusal Kind.Header tail) (room_answer room (tail_length wide))

-- what the answer hands over
abbrev pub move_hands : ℕ → List ℕ → Handed
move_hands room tail = written_hands (move_answers room tail)

-- a refusal leaves the buffer as it was, success leaves it so beyond what it writes

abbrev pub answer_leaves : List ℕ → List ℕ → Result ℕ Refused → List ℕ
answer_leaves out tail (Ok end) = sets out 0 (moved_bytes tail)
answer_leaves out tail (Err k) = out

abbrev pub move_leaves : List ℕ → List ℕ → List ℕ
move_leaves out tail = answer_leaves out tail (move_answers (length out) tail)
