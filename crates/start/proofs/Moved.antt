-- Nothing is lost in a move: the statement MoveKept. Assumes nothing.
use mathlib.Core.Path.{◌≡◌, sym, ap, subst, ◌∙◌}
use mathlib.Core.Bool.{true}
use mathlib.Core.List.{List}
use Prim.Native.Nat.{ℕ, suc, ◌+◌, ◌≤◌}
use native.Mathlib.Omega.{arith}
use lib.ListN.{length, take, drop}
use lib.Seq.{sets-eq, take_at}
use Rattle.std.specs.Prelude.{None}
use Rattle.number.proofs.Laws.{and_left, and_right, and_true}
use Rattle.schedule.specs.Record.{header_in_range}
use Rattle.schedule.proofs.Laws.{header_under}
use Rattle.tail.specs.Tail.{header_of, tail_in_range}
use Rattle.form.specs.Form.{narrow, wide, tail_length, tail_at}
use Rattle.form.proofs.Kept.{tail_kept}
use Rattle.form.proofs.Lengths.{tail_size_lem}
use Rattle.form.proofs.Fits.{form_fits, range_fits}
use Rattle.start.specs.Types.{Kind, Tail}
use Rattle.start.specs.Start.{most_calls, tail_refusal}
use Rattle.start.specs.Move.{moved_bytes, move_leaves}
use Rattle.start.specs.Kept.{MoveKept}
use Rattle.start.proofs.Taken.{taken, fields_have, ranged}
use Rattle.start.proofs.Answered.{move_done}

-- a tail in range under header 01 is so under 0B
range_widens : (limit : ℕ) (t : Tail) → tail_in_range Kind.Header limit t ≡ true → tail_in_range Kind.WideHeader limit t ≡ true
range_widens limit t q =
    let h = header_of Kind.Header t in
    and_true _ _ (header_under Kind.WideHeader h (omega arith) (and_left (header_in_range h) _ q)) (and_right (header_in_range h) _ q)

moved_long : (tail : List ℕ) → length (moved_bytes tail) ≡ tail_length wide
moved_long tail = tail_size_lem wide (tail_at narrow tail) (form_fits Kind.WideHeader).0 (fields_have Kind.Header tail)

-- a move that is done leaves the wide tail at the front of the buffer
pub moved_left : (buffer tail : List ℕ) → tail_refusal Kind.Header tail ≡ None → tail_length wide ≤ length buffer
    → take (tail_length wide) (move_leaves buffer tail) ≡ moved_bytes tail
moved_left buffer tail e room =
    ap (take (tail_length wide)) (sym (move_done buffer tail e room).1 ∙ sets-eq (moved_bytes tail) buffer 0 (omega (arith, moved_long tail)))
    ∙ take_at (moved_bytes tail) (drop (0 + length (moved_bytes tail)) buffer) (tail_length wide) (moved_long tail)

pub move_kept : MoveKept
move_kept tail e =
    record {
      long = moved_long tail;
      same_fields = same;
      startable = taken Kind.WideHeader (moved_bytes tail) (moved_long tail) (subst (λ (t : Tail). tail_in_range Kind.WideHeader (suc most_calls) t ≡ true) (sym same) wider);
    }
  where
    wider : tail_in_range Kind.WideHeader (suc most_calls) (tail_at narrow tail) ≡ true
    wider = range_widens (suc most_calls) (tail_at narrow tail) (ranged Kind.Header tail e)

    same : tail_at wide (moved_bytes tail) ≡ tail_at narrow tail
    same =
        tail_kept wide (tail_at narrow tail)
        (range_fits Kind.WideHeader (suc most_calls) (tail_at narrow tail) (omega arith) (omega arith) (fields_have Kind.Header tail) wider)
