-- What a move answers and leaves gives its line. Assumes nothing.
use mathlib.Core.Path.{◌≡◌, refl, sym, ap, subst, ◌∙◌}
use mathlib.Core.List.{List, ◌++◌}
use Prim.Native.Nat.{ℕ, ◌≤◌}
use native.Mathlib.Omega.{arith}
use lib.ListN.{length, length-append}
use Rattle.std.specs.Prelude.{Option, Some, None, Result}
use Rattle.number.specs.declared.Refusal.{Refusal}
use Rattle.number.specs.declared.Refused.{Refused}
use Rattle.number.specs.Refusal.{refusal_number, with_number}
use Rattle.text.specs.Text.{ascii, hexadecimal}
use Rattle.text.proofs.Laws.{hexadecimal_length, decimal_length, refusal_length}
use Rattle.kind.specs.declared.Kind.{Kind}
use Rattle.form.specs.Form.{wide, tail_length}
use Rattle.start.specs.Start.{tail_refusal}
use Rattle.start.specs.Move.{moved_bytes, move_answers, move_leaves}
use Rattle.start.proofs.Taken.{refusal_most}
use Rattle.start.proofs.Answered.{move_refused, move_done}
use Rattle.start.proofs.Moved.{moved_left, move_kept}
use Rattle.frame.specs.Frame.{answer_line, WroteWithin}
use Rattle.move_tail.specs.Line.{line_unless, moved_line, longest_line}

-- the line of what a move answers and leaves, where the buffer has room
pub record Moves (buffer tail line : List ℕ) : Type 0 where
  pub said : answer_line (with_number (move_answers (length buffer) tail)) (move_leaves buffer tail) ≡ line
  pub within : (left : List ℕ) → length left ≡ length buffer → WroteWithin (with_number (move_answers (length buffer) tail)) left
  pub few : length line ≤ longest_line

pub moves : (buffer tail : List ℕ) → tail_length wide ≤ length buffer → Moves buffer tail (moved_line tail)
moves buffer tail room = go (tail_refusal Kind.Header tail) refl
  where
    line : List ℕ
    line = hexadecimal (moved_bytes tail) ++ ascii "\n"

    go : (x : Option Refusal) → tail_refusal Kind.Header tail ≡ x → Moves buffer tail (line_unless x line)
    go None taken =
        let done = (move_done buffer tail taken room).0 in
        record {
          said =
              ap (λ (x : Result ℕ Refused). answer_line (with_number x) (move_leaves buffer tail)) (sym done)
              ∙ ap (λ l. hexadecimal l ++ ascii "\n") (moved_left buffer tail taken room);
          within = λ left same. subst (λ (x : Result ℕ Refused). WroteWithin (with_number x) left) done (omega arith);
          few =
              omega (
                arith,
                length-append (hexadecimal (moved_bytes tail)) (ascii "\n"),
                hexadecimal_length (moved_bytes tail),
                (move_kept tail taken).long,
              );
        }
    go (Some k) e =
        let answer = (move_refused buffer tail k e).0 in
        let number : ℕ = refusal_number k in
        let most : number ≤ 10 = refusal_most Kind.Header tail k e in
        record {
          said = ap (λ (x : Result ℕ Refused). answer_line (with_number x) (move_leaves buffer tail)) (sym answer);
          within = λ left same. subst (λ (x : Result ℕ Refused). WroteWithin (with_number x) left) answer tt;
          few =
              omega (
                arith,
                refusal_length number 0,
                decimal_length 5 number (omega arith) (omega arith),
                decimal_length 5 0 (omega arith) (omega arith),
              );
        }
