-- What the loops over a report's bytes use of the lines: the first line and those after it, lengths, and lines put one after the other.
-- Assumes nothing.
use mathlib.Core.Path.{◌≡◌, sym, ap, ◌∙◌}
use mathlib.Core.Bool.{Bool, true, false}
use mathlib.Core.List.{List, [], ◌∷◌, ◌++◌, append_assoc}
use Prim.Native.Nat.{ℕ, suc, ◌+◌, ◌*◌, ◌≤◌, ◌<◌}
use native.Mathlib.Numerals.{add-one}
use native.Mathlib.Omega.{arith}
use lib.ListN.{length, get_or, drop, length-append, drop_of_length-le}
use lib.Seq.{sets, length-sets, drop-cons}
use Rattle.number.proofs.Lists.{sets_append}
use Rattle.text.specs.Text.{decimal}
use Rattle.text.specs.Put.{Put}
use Rattle.text.proofs.Laws.{decimal_length}
use Rattle.text.proofs.Putting.{put_then}
use Rattle.schedule.specs.Record.{longest}
use Rattle.rules.specs.Report.{outcome_in, closed_in}
use Rattle.lines.specs.Types.{Outcome}
use Rattle.lines.specs.Lines.{outcome_text, closed_text, byte_text, byte_lines}

-- the lines of what is left before byte i
abbrev pub lines_from : List ℕ → ℕ → List ℕ
lines_from bytes i = byte_lines (suc i) (drop i bytes)

word_few : (o : Outcome) → length (outcome_text o) ≤ 7
word_few Outcome.Idle = omega arith
word_few Outcome.Moved = omega arith
word_few Outcome.Commit = omega arith
word_few Outcome.Abort = omega arith

closed_few : (closed : Bool) → length (closed_text closed) ≤ 8
closed_few true = omega arith
closed_few false = omega arith

byte_long : (b : ℕ) → length (byte_text b) ≡ length (outcome_text (outcome_in b)) + length (closed_text (closed_in b))
byte_long b = length-append (outcome_text (outcome_in b)) (closed_text (closed_in b))

byte_few : (b : ℕ) → length (byte_text b) ≤ 15
byte_few b = omega (arith, byte_long b, word_few (outcome_in b), closed_few (closed_in b))

pub number_few : (k : ℕ) → k ≤ longest → length (decimal k) ≤ 5
number_few k h = decimal_length 5 k (omega arith) (omega arith)

-- lines whose numbers have at most five digits
pub lines_few : (k : ℕ) (bytes : List ℕ) → k + length bytes ≤ 100000 → length (byte_lines k bytes) ≤ 20 * length bytes
unfolding byte_lines
lines_few k [] h = omega arith
lines_few k (b ∷ bytes) h =
    omega (
      arith,
      length-append (decimal k) (byte_text b ++ byte_lines (suc k) bytes),
      length-append (byte_text b) (byte_lines (suc k) bytes),
      decimal_length 5 k (omega arith) (omega arith),
      byte_few b,
      lines_few (suc k) bytes (omega arith),
    )

-- the first line of what is left, and those after it
module _ (bytes : List ℕ) (i : ℕ) where
  pub lines_end : length bytes ≤ i → lines_from bytes i ≡ []
  unfolding byte_lines
  lines_end h = ap (byte_lines (suc i)) (drop_of_length-le bytes h)

  module _ (some : i < length bytes) where
    first_line : lines_from bytes i ≡ (decimal (i + 1) ++ byte_text (get_or bytes i 0)) ++ lines_from bytes (i + 1)
    unfolding byte_lines
    first_line =
        ap (byte_lines (suc i)) (drop-cons bytes i 0 some)
        ∙ rw (add-one i) (sym (append_assoc (decimal (suc i)) (byte_text (get_or bytes i 0)) (lines_from bytes (suc i))))

    pub line_long : length (lines_from bytes i)
        ≡ length (decimal (i + 1)) + length (outcome_text (outcome_in (get_or bytes i 0))) + length (closed_text (closed_in (get_or bytes i 0)))
        + length (lines_from bytes (i + 1))
    line_long =
        ap length first_line
        ∙ length-append (decimal (i + 1) ++ byte_text (get_or bytes i 0)) (lines_from bytes (i + 1))
        ∙ omega (arith, length-append (decimal (i + 1)) (byte_text (get_or bytes i 0)), byte_long (get_or bytes i 0))

-- before byte i, with `at` the place after the lines before: what is left gives what the whole gives
pub record LinesLeft (bytes text₀ text : List ℕ) (at i : ℕ) : Type 0 where
  pub same : length text ≡ length text₀
  pub end : at + length (lines_from bytes i) ≡ length (byte_lines 1 bytes)
  pub rest : sets text at (lines_from bytes i) ≡ sets text₀ 0 (byte_lines 1 bytes)

module _ (bytes text₀ text : List ℕ) (at i : ℕ) (g : LinesLeft bytes text₀ text at i) where
  -- one turn puts a line
  pub line_next : i < length bytes → (numbered worded after : List ℕ) (one two next : ℕ)
      → Put text at (decimal (i + 1)) one numbered
      → Put numbered one (outcome_text (outcome_in (get_or bytes i 0))) two worded
      → Put worded two (closed_text (closed_in (get_or bytes i 0))) next after
      → LinesLeft bytes text₀ after next (i + 1)
  line_next some numbered worded after one two next p q r =
      let line : List ℕ = decimal (i + 1) ++ byte_text (get_or bytes i 0) in
      let put : Put text at line next after = put_then p (put_then q r) in
      rw (put.ends, put.leaves) (record {
        same = length-sets text at line ∙ g.same;
        end = omega (
          arith,
          line_long bytes i some,
          length-append (decimal (i + 1)) (byte_text (get_or bytes i 0)),
          byte_long (get_or bytes i 0),
          g.end,
        );
        rest = sym (sets_append text at line (lines_from bytes (i + 1))) ∙ ap (sets text at) (sym (first_line bytes i some)) ∙ g.rest;
      })

  pub line_all : length bytes ≤ i → Put text₀ 0 (byte_lines 1 bytes) at text
  line_all done =
      let none : lines_from bytes i ≡ [] = lines_end bytes i done in
      record {
        ends = omega (arith, ap length none, g.end);
        leaves = ap (sets text at) (sym none) ∙ g.rest;
      }
