-- The run of a schedule, and that of steps from a tail: what they answer, and what they leave in the lent report. Order of refusals: 1; from a tail
-- 10, 5; records from the left, each 2, 3, 4, 5; then 6. Assumes nothing.
use Rattle.std.specs.Prelude.{cond, List, ℕ, ◌+◌, ltb, length, Result, Err}
use Rattle.std.proofs.lemmas.List.Edits.{sets}
use Rattle.number.specs.Refusal.{Handed, refused}
use Rattle.schedule.specs.Schedule.{Reading, Accepted, Refused, read_schedule}
use Rattle.writer.specs.Writer.{room_answer, written_hands}
use Rattle.passes.specs.Pass.{fresh_of}
use Rattle.start.specs.Start.{start_release, read_from}
use Rattle.marker.specs.Types.{Header, Release}
use Rattle.marker.specs.Types as types
use Rattle.marker.specs.Report.{report_bytes, tail_size}

-- the length written; or the refusal's number with its place, or with the length needed
abbrev pub reading_answer : ℕ → Reading → Result ℕ types.Refused
reading_answer room (Accepted h steps) = room_answer room (length steps + tail_size h)
reading_answer room (Refused k place) = Err (refused k place)

-- what a run from a release leaves, which goes by the header: a refusal leaves the report as it was, success leaves it so beyond what it writes
abbrev pub reading_leaves : (Header → Release) → List ℕ → Reading → List ℕ
reading_leaves start report (Accepted h steps) =
    cond (ltb (length report) (length steps + tail_size h)) report (sets report 0 (report_bytes h.kind (start h) steps))
reading_leaves start report (Refused k place) = report

-- The run of a schedule, from the fresh release of its header

-- what it answers, with a report of `room` bytes
abbrev pub run_answers : ℕ → List ℕ → Result ℕ types.Refused
run_answers room schedule = reading_answer room (read_schedule schedule)

-- what the answer hands over
abbrev pub run_hands : ℕ → List ℕ → Handed
run_hands room schedule = written_hands (run_answers room schedule)

abbrev pub run_leaves : List ℕ → List ℕ → List ℕ
run_leaves report schedule = reading_leaves fresh_of report (read_schedule schedule)

-- Request 2026-04: the run of steps from a tail, from the release that the tail holds

abbrev pub run_from_answers : ℕ → List ℕ → List ℕ → Result ℕ types.Refused
run_from_answers room tail bytes = reading_answer room (read_from tail bytes)

abbrev pub run_from_hands : ℕ → List ℕ → List ℕ → Handed
run_from_hands room tail bytes = written_hands (run_from_answers room tail bytes)

abbrev pub run_from_leaves : List ℕ → List ℕ → List ℕ → List ℕ
run_from_leaves report tail bytes = reading_leaves (λ _. start_release tail) report (read_from tail bytes)
