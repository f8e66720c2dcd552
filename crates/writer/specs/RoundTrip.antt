-- Nothing is lost between the writer and the reader, one record and a whole schedule. Proved in proofs/RoundTrip.antt. Assumes nothing.
use Rattle.std.specs.Prelude.{◌≡◌, true, List, [], ◌∷◌, map, ℕ, ◌+◌, ◌≤◌, length, take, drop, Option, Result, Ok, Err}
use Rattle.std.proofs.lemmas.List.Edits.{sets}
use Rattle.kind.specs.Kind.{kind_number}
use Rattle.kind.specs.Step.{AllInRange}
use Rattle.schedule.specs.Record.{header_record, step_record, header_in_range, record_length, longest}
use Rattle.schedule.specs.Reader.{reader_answers}
use Rattle.schedule.specs.Schedule.{schedule_bytes}
use Rattle.schedule.specs.RoundTrip.{may_follow, AllBytes}
use Rattle.writer.specs.Types.{Step, Header, Record, Refused}
use Rattle.writer.specs.Writer.{writer_answers, writer_leaves}

-- One record, by what the reader and the writer promise

abbrev pub answers_for : ℕ → ℕ → Record → Result ℕ Refused
answers_for room place r = writer_answers room place (kind_number r.kind) r.first r.second

abbrev pub leaves_for : List ℕ → ℕ → Record → List ℕ
leaves_for buffer place r = writer_leaves buffer place (kind_number r.kind) r.first r.second

-- what the writer puts, the reader yields
abbrev pub ReadAfterWrite : Type 0
ReadAfterWrite =
    (buffer : List ℕ) (place : ℕ) (before : Option Header) (r : Record) → may_follow before r ≡ true → place ≤ longest
    → place + record_length r ≤ length buffer
    → (answers_for (length buffer) place r ≡ Ok (place + record_length r))
    × (reader_answers (drop place (leaves_for buffer place r)) before ≡ Ok (r, record_length r))

-- what the reader yields, the writer puts: the bytes that were read
abbrev pub WriteAfterRead : Type 0
WriteAfterRead =
    (bytes : List ℕ) → AllBytes bytes → (before : Option Header) (r : Record) (l : ℕ) → reader_answers bytes before ≡ Ok (r, l)
    → (buffer : List ℕ) (place : ℕ) → place ≤ longest → place + l ≤ length buffer
    → (answers_for (length buffer) place r ≡ Ok (place + l)) × (leaves_for buffer place r ≡ sets buffer place (take l bytes))

-- A whole schedule

-- the writer's last answer and what it leaves, after the answer so far: each record is put at the place that the answer before hands over, and a
-- refusal ends it
abbrev pub written_in_turn : List Record → Result ℕ Refused → List ℕ → Result ℕ Refused × List ℕ
written_in_turn [] x buffer = (x, buffer)
written_in_turn (r ∷ rs) (Ok place) buffer = written_in_turn rs (answers_for (length buffer) place r) (leaves_for buffer place r)
written_in_turn (r ∷ rs) (Err k) buffer = (Err k, buffer)

-- a header and its steps, from place 0 on, are all taken, and their bytes stand in the buffer
abbrev pub WrittenInTurn : Type 0
WrittenInTurn =
    (buffer : List ℕ) (h : Header) (steps : List Step) → header_in_range h ≡ true → AllInRange h.n steps
    → length (schedule_bytes h steps) ≤ longest → length (schedule_bytes h steps) ≤ length buffer
    → written_in_turn (header_record h ∷ map step_record steps) (Ok 0) buffer
    ≡ (Ok (length (schedule_bytes h steps)), sets buffer 0 (schedule_bytes h steps))
