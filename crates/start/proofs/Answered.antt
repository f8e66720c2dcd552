-- What a move and a reading from a tail are, by what refuses the tail. Assumes nothing.
use mathlib.Core.Path.{◌≡◌, refl, sym, ap, subst, ◌∙◌}
use mathlib.Core.List.{List}
use Prim.Native.Nat.{ℕ, ◌≤◌, ◌<◌}
use native.Mathlib.Omega.{arith}
use lib.ListN.{length}
use lib.Seq.{sets}
use borrow.Author.Tests.{lt-ltb, le-ltb}
use Rattle.std.specs.Prelude.{Option, Some, None, Result, Ok, Err}
use Rattle.number.specs.Refusal.{refused}
use Rattle.schedule.specs.Record.{longest}
use Rattle.schedule.specs.Context.{context_of}
use Rattle.schedule.specs.Schedule.{Refused, steps_from}
use Rattle.writer.specs.Writer.{room_answer}
use Rattle.form.specs.Form.{wide, tail_length}
use Rattle.start.specs.Types.{Kind, Header, Refusal, Start}
use Rattle.start.specs.Types as types
use Rattle.start.specs.Start.{tail_refusal, read_under, start_at, unless, start_of}
use Rattle.start.specs.Move.{moved_bytes, move_with, move_answers, answer_leaves, move_leaves}

module _ (out tail : List ℕ) where
  -- what the move leaves goes by its answer
  by_answer : (x : Result ℕ types.Refused) → x ≡ move_answers (length out) tail → (after : List ℕ) → after ≡ answer_leaves out tail x
      → (x ≡ move_answers (length out) tail) × (after ≡ move_leaves out tail)
  by_answer x e after left = (e, left ∙ ap (answer_leaves out tail) e)

  pub move_refused : (k : Refusal) → tail_refusal Kind.Header tail ≡ Some k → (Err (refused k 0) ≡ move_answers (length out) tail) × (out ≡ move_leaves out tail)
  move_refused k e = by_answer (Err (refused k 0)) (sym (ap (λ (x : Option Refusal). move_with x (room_answer (length out) (tail_length wide))) e)) out refl

  pub taken_answer : tail_refusal Kind.Header tail ≡ None → room_answer (length out) (tail_length wide) ≡ move_answers (length out) tail
  taken_answer e = sym (ap (λ (x : Option Refusal). move_with x (room_answer (length out) (tail_length wide))) e)

  pub move_done : tail_refusal Kind.Header tail ≡ None → tail_length wide ≤ length out
      → (Ok (tail_length wide) ≡ move_answers (length out) tail) × (sets out 0 (moved_bytes tail) ≡ move_leaves out tail)
  move_done taken room =
      by_answer (Ok (tail_length wide)) (sym (simp (le-ltb (length out) (tail_length wide) room)) ∙ taken_answer taken) (sets out 0 (moved_bytes tail)) refl

module _ (refusal : Option Refusal) (h : Header) (bytes : List ℕ) where
  pub read_long : longest < length bytes → read_under refusal h bytes ≡ Refused Refusal.EmptyOrTooLong 0
  read_long more = simp (lt-ltb longest (length bytes) more)

  pub read_refused : (k : Refusal) → length bytes ≤ longest → refusal ≡ Some k → read_under refusal h bytes ≡ Refused k 0
  read_refused k fits e = simp (le-ltb longest (length bytes) fits, e)

  pub read_steps : length bytes ≤ longest → refusal ≡ None → read_under refusal h bytes ≡ steps_from h 0 bytes 0
  read_steps fits e = simp (le-ltb longest (length bytes) fits, e)

-- what the code makes of a tail tells what refuses it

module _ (k : Kind) (tail : List ℕ) where
  pub start_refused : (e : Refusal) → start_of k tail ≡ Err e → tail_refusal k tail ≡ Some e
  start_refused e q = go (tail_refusal k tail) q
    where
      go : (x : Option Refusal) → unless x (start_at k tail) ≡ Err e → x ≡ Some e
      go None p = let z : ◌≡◌ {A = ℕ} 0 1 = cc in absurd (omega arith)
      go (Some j) p = let same : j ≡ e = cc in ap Some same

  pub start_taken : (s : Start) → start_of k tail ≡ Ok s → (tail_refusal k tail ≡ None) × (start_at k tail ≡ s)
  start_taken s q = go (tail_refusal k tail) q
    where
      go : (x : Option Refusal) → unless x (start_at k tail) ≡ Ok s → (x ≡ None) × (start_at k tail ≡ s)
      go None p = let same : start_at k tail ≡ s = cc in (refl, same)
      go (Some j) p = let z : ◌≡◌ {A = ℕ} 0 1 = cc in absurd (omega arith)

  -- its context is that of its header
  pub start_context : (s : Start) → start_of k tail ≡ Ok s → s.context ≡ context_of s.context.header
  start_context s q = subst (λ (t : Start). t.context ≡ context_of t.context.header) (start_taken s q).1 refl
