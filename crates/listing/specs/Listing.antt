-- The listing of a schedule, the text that program `mark` prints, and that of a run from a tail. Assumes nothing.
use Rattle.std.specs.Prelude.{List, [], ◌∷◌, ◌++◌, ℕ, suc, ◌≤◌, length, take, Result}
use Rattle.number.specs.Refusal.{Handed, refusal_number}
use Rattle.text.specs.Text.{ascii, decimal, refusal_line}
use Rattle.text.specs.Put.{each}
use Rattle.schedule.specs.Schedule.{Reading, Accepted, Refused, read_schedule}
use Rattle.writer.specs.Writer.{text_answer, text_left, written_hands}
use Rattle.rules.specs.Run.{reports, after}
use Rattle.passes.specs.Pass.{fresh_of}
use Rattle.start.specs.Start.{start_release, read_from}
use Rattle.lines.specs.Lines.{report_text, count_text, log_text}
use Rattle.listing.specs.Types.{Header, Release, Report}
use Rattle.listing.specs.Types as types

-- A line a step: step number from 1, then idle, moved, commit or abort, then `closed` where it closed another's log

unfoldable pub step_lines : ℕ → List Report → List ℕ
step_lines k [] = []
step_lines k (t ∷ ts) = decimal k ++ (report_text t ++ step_lines (suc k) ts)

-- Then `calls` with the counts of parties 0 to n

abbrev pub calls_line : Release → List ℕ
calls_line r = ascii "calls" ++ (each count_text (take (suc r.n) r.calls) ++ ascii "\n")

-- then `logs` with first and last per participant as `-`, `y`, `a`, `c`

abbrev pub logs_line : Release → List ℕ
logs_line r = ascii "logs" ++ (each log_text (take r.n r.store.logs) ++ ascii "\n")

abbrev pub end_lines : Release → List ℕ
end_lines r = calls_line r ++ logs_line r

-- of a run from a release, which goes by the header; a refusal prints its line alone
abbrev pub reading_text : (Header → Release) → Reading → List ℕ
reading_text start (Accepted h steps) = step_lines 1 (reports (start h) steps) ++ end_lines (after (start h) steps)
reading_text start (Refused k place) = refusal_line (refusal_number k) place

-- the listing of a schedule's bytes
abbrev pub listing : List ℕ → List ℕ
listing schedule = reading_text fresh_of (read_schedule schedule)

-- request 2026-04: the listing of steps that go on from a tail. It counts them from 1; calls and logs are those of the release at its end
abbrev pub listing_from : List ℕ → List ℕ → List ℕ
listing_from tail bytes = reading_text (λ _. start_release tail) (read_from tail bytes)

-- a text of this length has room for every listing: 32,768 lines of at most 20 bytes, then at most 204 and 101. Proved in proofs/Fits.antt

abbrev pub longest_text : ℕ
longest_text = 655665

pub record ListingFits : Type 0 where
  pub whole : (schedule : List ℕ) → length (listing schedule) ≤ longest_text
  pub from : (tail bytes : List ℕ) → length (listing_from tail bytes) ≤ longest_text

-- The listing's entries: the length written, or 6 with the length needed, and then the text is as it was

abbrev pub list_answers : ℕ → List ℕ → Result ℕ types.Refused
list_answers room schedule = text_answer room (listing schedule)

-- what the answer hands over
abbrev pub list_hands : ℕ → List ℕ → Handed
list_hands room schedule = written_hands (list_answers room schedule)

abbrev pub list_leaves : List ℕ → List ℕ → List ℕ
list_leaves text schedule = text_left text (listing schedule)

abbrev pub list_from_answers : ℕ → List ℕ → List ℕ → Result ℕ types.Refused
list_from_answers room tail bytes = text_answer room (listing_from tail bytes)

abbrev pub list_from_hands : ℕ → List ℕ → List ℕ → Handed
list_from_hands room tail bytes = written_hands (list_from_answers room tail bytes)

abbrev pub list_from_leaves : List ℕ → List ℕ → List ℕ → List ℕ
list_from_leaves text tail bytes = text_left text (listing_from tail bytes)
