-- The text of a sheet: of the one that was written, and of the refusal. Assumes nothing.
use mathlib.Core.Path.{◌≡◌, refl, sym, ap, ◌∙◌}
use mathlib.Core.Bool.{Bool, true, false, cond}
use mathlib.Core.List.{List}
use Prim.Native.Nat.{ℕ, ◌≤◌}
use native.Mathlib.Omega.{arith}
use lib.ListN.{length, take}
use lib.Seq.{length-sets}
use Rattle.std.specs.Prelude.{Ok, Err}
use Rattle.number.specs.Refusal.{refusal_number, refused}
use Rattle.number.specs.declared.Refusal.{Refusal}
use Rattle.number.specs.declared.Refused.{Refused}
use Rattle.text.specs.Text.{refusal_line}
use Rattle.text.specs.Put.{Put, each}
use Rattle.text.proofs.Laws.{decimal_length, refusal_length}
use Rattle.text.proofs.Putting.{put_front}
use Rattle.writer.specs.Writer.{text_answer, text_left}
use Rattle.writer.proofs.Texts.{never_refused, text_whole}
use Rattle.parts.specs.Parts.{parts}
use Rattle.exercises.specs.Sheet.{sheet, sheet_bytes, header_for, in_bounds, sheet_answers, sheet_leaves}
use Rattle.exercises.specs.Promises.{longest_sheet}
use Rattle.exercises.proofs.ClassFile.{sheet_is_class}
use Rattle.exercises.proofs.Fits.{sheet_fits}
use Rattle.print_sheet.specs.Lines.{line_of, sheet_text, longest_text}
use Rattle.print_sheet.proofs.Laws.{lines_long}

-- only a sheet outside the bounds is refused
pub record Outside (n votes k : ℕ) (x : Refused) : Type 0 where
  pub bounds : in_bounds n votes k ≡ false
  pub is : x ≡ refused Refusal.OutOfRange 0

module _ (n votes k : ℕ) (buffer : List ℕ) (room : longest_sheet ≤ length buffer) where
  -- a sheet that was written stands at the front
  pub record There (end : ℕ) (left : List ℕ) : Type 0 where
    pub within : in_bounds n votes k ≡ true
    pub ends : end ≤ length left
    pub front : take end left ≡ sheet_bytes (header_for n votes) k

  pub there : (end : ℕ) (left : List ℕ) → Ok end ≡ sheet_answers (length buffer) n votes k → left ≡ sheet_leaves buffer n votes k → There end left
  there end left answer leaves = go (in_bounds n votes k) refl answer leaves
    where
      go : (b : Bool) → in_bounds n votes k ≡ b
          → Ok end ≡ cond b (text_answer (length buffer) (sheet_bytes (header_for n votes) k)) (Err (refused Refusal.OutOfRange 0))
          → left ≡ cond b (text_left buffer (sheet_bytes (header_for n votes) k)) buffer → There end left
      go true q a l =
          let w = text_whole buffer (sheet_bytes (header_for n votes) k) (sheet_fits.fits n votes k q) room left end a l in
          record { within = q; ends = w.0; front = w.1 }
      go false q a l = let z : ◌≡◌ {A = ℕ} 0 1 = cc (a) in absurd (omega arith)

  pub outside : (x : Refused) → Err x ≡ sheet_answers (length buffer) n votes k → Outside n votes k x
  outside x answer = go (in_bounds n votes k) refl answer
    where
      go : (b : Bool) → in_bounds n votes k ≡ b
          → Err x ≡ cond b (text_answer (length buffer) (sheet_bytes (header_for n votes) k)) (Err (refused Refusal.OutOfRange 0))
          → Outside n votes k x
      go true q a = absurd (never_refused buffer (sheet_bytes (header_for n votes) k) (sheet_fits.fits n votes k q) room x a)
      go false q a = record { bounds = q; is = cc (a) }

module _ {n votes k : ℕ} where
  -- the lines of a sheet

  module _ {buffer : List ℕ} {room : longest_sheet ≤ length buffer} {end : ℕ} {left : List ℕ} (t : There n votes k buffer room end left) where
    pub sheet_short : length (take end left) ≤ longest_sheet
    sheet_short = omega (arith, ap length t.front, sheet_fits.fits n votes k t.within)

    lines : each line_of (parts (take end left)) ≡ sheet_text n votes k
    lines = ap (λ l. each line_of (parts l)) t.front ∙ ap (each line_of) (sheet_is_class n votes k t.within).cut ∙ sym (text_within t.within)
      where
        text_within : in_bounds n votes k ≡ true → sheet_text n votes k ≡ each line_of (sheet (header_for n votes) k)
        text_within q = rw q refl

    pub lines_put : {text after : List ℕ} {place : ℕ} → longest_text ≤ length text → Put text 0 (each line_of (parts (take end left))) place after
        → (place ≤ length after) × (take place after ≡ sheet_text n votes k)
    lines_put {text} {after} {place} enough put =
        let fits : length (each line_of (parts (take end left))) ≤ length text = omega (arith, lines_long (take end left), sheet_short, enough) in
        (omega (arith, put.ends, ap length put.leaves, length-sets text 0 (each line_of (parts (take end left))), fits), put_front put fits ∙ lines)

  -- the line of a refusal

  module _ {x : Refused} (r : Outside n votes k x) where
    abbrev line : List ℕ
    line = refusal_line (refusal_number x.refusal) x.value

    five : line ≡ refusal_line 5 0
    five = ap (λ (x : Refused). refusal_line (refusal_number x.refusal) x.value) r.is

    pub refusal_short : length line ≤ longest_text
    refusal_short =
        omega (arith, ap length five, refusal_length 5 0, decimal_length 1 5 (omega arith) (omega arith), decimal_length 1 0 (omega arith) (omega arith))

    line_is : line ≡ sheet_text n votes k
    line_is = five ∙ sym (text_outside r.bounds)
      where
        text_outside : in_bounds n votes k ≡ false → sheet_text n votes k ≡ refusal_line 5 0
        text_outside q = rw q refl

    pub refusal_put : {text after : List ℕ} {place : ℕ} → longest_text ≤ length text → Put text 0 line place after
        → (place ≤ length after) × (take place after ≡ sheet_text n votes k)
    refusal_put {text} {after} {place} enough put =
        let fits : length line ≤ length text = omega (arith, refusal_short, enough) in
        (omega (arith, put.ends, ap length put.leaves, length-sets text 0 line, fits), put_front put fits ∙ line_is)
