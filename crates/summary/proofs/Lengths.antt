-- Lengths of the texts of a summary, by their parts. Assumes nothing.
use mathlib.Core.Path.{◌≡◌, ap, ◌∙◌}
use mathlib.Core.List.{List, ◌++◌}
use Prim.Native.Nat.{ℕ, ◌+◌}
use lib.ListN.{length, length-append}
use Rattle.text.specs.Text.{ascii, decimal}
use Rattle.summary.specs.Types.{Totals, Figures}
use Rattle.summary.specs.Summary.{number_text, line_text, counts_text, party_text, column_text, calls_text, mean_text, largest_text, figures_text}

pub number_long : (word : List ℕ) (k : ℕ) → length (number_text word k) ≡ length word + length (decimal k)
number_long word k = length-append word (decimal k)

pub line_long : (word : List ℕ) (k : ℕ) → length (line_text word k) ≡ length (number_text word k) + 1
line_long word k = length-append (number_text word k) (ascii "\n")

pub largest_long : (k p : ℕ) → length (largest_text k p) ≡ length (number_text (ascii "largest ") k) + length (line_text (ascii " in ") p)
largest_long k p = length-append (number_text (ascii "largest ") k) (line_text (ascii " in ") p)

pub mean_long : (m r s : ℕ) → length (mean_text m r s) ≡ length (number_text (ascii "mean ") m) + (length (number_text (ascii " ") r) + length (line_text (ascii "/") s))
mean_long m r s =
    length-append (number_text (ascii "mean ") m) (number_text (ascii " ") r ++ line_text (ascii "/") s)
    ∙ ap (λ k. length (number_text (ascii "mean ") m) + k) (length-append (number_text (ascii " ") r) (line_text (ascii "/") s))

module _ (t : Totals) where
  abbrev one : List ℕ
  one = line_text (ascii "schedules ") t.schedules

  abbrev two : List ℕ
  two = line_text (ascii "commit ") t.commit

  abbrev three : List ℕ
  three = line_text (ascii "abort ") t.abort

  abbrev four : List ℕ
  four = line_text (ascii "neither ") t.neither

  pub counts_long : length (counts_text t) ≡ length one + (length two + (length three + length four))
  counts_long =
      length-append one (two ++ (three ++ four))
      ∙ ap (λ k. length one + k) (length-append two (three ++ four) ∙ ap (λ k. length two + k) (length-append three four))

pub party_long : (p k : ℕ) → length (party_text p k) ≡ length (number_text (ascii "party ") p) + length (line_text (ascii " ") k)
party_long p k = length-append (number_text (ascii "party ") p) (line_text (ascii " ") k)

module _ (f : Figures) where
  pub calls_long : length (calls_text f) ≡ length (line_text (ascii "calls ") f.calls) + length (column_text f.totals.sites f.column)
  calls_long = length-append (line_text (ascii "calls ") f.calls) (column_text f.totals.sites f.column)

  abbrev mean : List ℕ
  mean = mean_text f.mean f.remainder f.totals.schedules

  abbrev most : List ℕ
  most = largest_text f.totals.largest f.totals.first

  pub figures_long : length (figures_text f) ≡ length (counts_text f.totals) + (length (calls_text f) + (length mean + length most))
  figures_long =
      length-append (counts_text f.totals) (calls_text f ++ (mean ++ most))
      ∙ ap (λ k. length (counts_text f.totals) + k) (length-append (calls_text f) (mean ++ most) ∙ ap (λ k. length (calls_text f) + k) (length-append mean most))
