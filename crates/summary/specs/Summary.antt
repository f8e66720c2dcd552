-- The summary of a class file: the text that program `class` prints. Assumes nothing.
use Rattle.std.specs.Prelude.{List, ◌++◌, ℕ, suc, ◌≤◌, length, get_or, Result, Ok, Err}
use Rattle.number.specs.Refusal.{Handed, refusal_number}
use Rattle.number.specs.Table.{tabulate}
use Rattle.text.specs.Text.{ascii, decimal, refusal_line}
use Rattle.text.specs.Put.{each}
use Rattle.writer.specs.Writer.{text_answer, text_left, written_hands}
use Rattle.figures.specs.Class.{ClassReading, Class, NoClass, read_class}
use Rattle.figures.specs.Figures.{figures_of}
use Rattle.summary.specs.Types.{Refused, Totals, Figures}

-- a word and a number, and a line that ends so

abbrev pub number_text : List ℕ → ℕ → List ℕ
number_text word k = word ++ decimal k

abbrev pub line_text : List ℕ → ℕ → List ℕ
line_text word k = number_text word k ++ ascii "\n"

-- one figure a line

abbrev pub counts_text : Totals → List ℕ
counts_text t =
    line_text (ascii "schedules ") t.schedules
    ++ (line_text (ascii "commit ") t.commit ++ (line_text (ascii "abort ") t.abort ++ line_text (ascii "neither ") t.neither))

-- request 2026-07: all calls, and a line for each party from 0 up to the largest n

abbrev pub party_text : ℕ → ℕ → List ℕ
party_text p k = number_text (ascii "party ") p ++ line_text (ascii " ") k

abbrev pub party_line : List ℕ → ℕ → List ℕ
party_line column p = party_text p (get_or column p 0)

abbrev pub parties : ℕ → List ℕ
parties sites = tabulate (suc sites) (λ p. p)

abbrev pub column_text : ℕ → List ℕ → List ℕ
column_text sites column = each (party_line column) (parties sites)

abbrev pub calls_text : Figures → List ℕ
calls_text f = line_text (ascii "calls ") f.calls ++ column_text f.totals.sites f.column

-- the whole part, and the remainder over the number of schedules
abbrev pub mean_text : ℕ → ℕ → ℕ → List ℕ
mean_text mean remainder schedules = number_text (ascii "mean ") mean ++ (number_text (ascii " ") remainder ++ line_text (ascii "/") schedules)

-- the largest number of calls, and the first schedule that has it
abbrev pub largest_text : ℕ → ℕ → List ℕ
largest_text largest first = number_text (ascii "largest ") largest ++ line_text (ascii " in ") first

abbrev pub figures_text : Figures → List ℕ
figures_text f =
    counts_text f.totals
    ++ (calls_text f ++ (mean_text f.mean f.remainder f.totals.schedules ++ largest_text f.totals.largest f.totals.first))

-- a refusal prints its line alone
abbrev pub class_text : ClassReading → List ℕ
class_text (Class ss) = figures_text (figures_of ss)
class_text (NoClass k place) = refusal_line (refusal_number k) place

abbrev pub summary : List ℕ → List ℕ
summary file = class_text (read_class file)

-- as the code puts it, by the answer
abbrev pub answer_text : Result Figures Refused → List ℕ
answer_text (Ok f) = figures_text f
answer_text (Err r) = refusal_line (refusal_number r.refusal) r.value

-- a text of this length has room for every summary: ten numbers of at most five digits, and 33 lines of a party, whose number has at most two, with at
-- most five. Proved in proofs/Fits.antt

abbrev pub longest_summary : ℕ
longest_summary = 608

abbrev pub SummaryFits : Type 0
SummaryFits = (file : List ℕ) → length (summary file) ≤ longest_summary

-- The summary's entry: the length written, or 6 with the length needed, and then the text is as it was

abbrev pub summary_answers : ℕ → List ℕ → Result ℕ Refused
summary_answers room file = text_answer room (summary file)

-- what the answer hands over
abbrev pub summary_hands : ℕ → List ℕ → Handed
summary_hands room file = written_hands (summary_answers room file)

abbrev pub summary_leaves : List ℕ → List ℕ → List ℕ
summary_leaves text file = text_left text (summary file)
