-- Nothing is lost between the writer and the reader: the statements of specs/RoundTrip.antt. Assumes nothing.
use mathlib.Core.Path.{◌≡◌, refl, sym, ap, ap₂, subst, ◌∙◌}
use mathlib.Core.Bool.{true}
use mathlib.Core.List.{List, [], ◌∷◌, ◌++◌, map, append_assoc}
use Prim.Native.Nat.{ℕ, ◌+◌, ◌≤◌}
use native.Mathlib.Omega.{arith}
use native.Mathlib.Nat.{add-zero, zero-add}
use lib.ListN.{length, take, drop}
use lib.Seq.{sets, sets-eq, length-sets, length-take-le, take_at, drop_at}
use Rattle.std.specs.Prelude.{Option, Some, None, Result, Ok}
use Rattle.number.proofs.Lists.{sets_append}
use Rattle.kind.specs.Step.{AllInRange}
use Rattle.writer.specs.Types.{Step, Header, Record, Refused}
use Rattle.schedule.specs.Record.{header_record, step_record, header_in_range, record_length, record_bytes, longest}
use Rattle.schedule.specs.Reader.{reader_answers}
use Rattle.schedule.specs.Schedule.{steps_bytes, schedule_bytes}
use Rattle.schedule.specs.RoundTrip.{may_follow}
use Rattle.writer.specs.RoundTrip.{leaves_for, ReadAfterWrite, WriteAfterRead, written_in_turn, WrittenInTurn}
use Rattle.schedule.proofs.Laws.{header_follows}
use Rattle.schedule.proofs.Records.{record_length_lem, front_length, read_front, read_yielded, step_follows}
use Rattle.writer.proofs.Writing.{written}

-- One record through the writer and the reader

pub read_after_write : ReadAfterWrite
read_after_write buffer place before r q near room =
    let w = written buffer place before r q near room in
    let long : length (record_bytes r) ≡ record_length r = record_length_lem r in
    let rest : List ℕ = drop (place + length (record_bytes r)) buffer in
    let put : leaves_for buffer place r ≡ take place buffer ++ (record_bytes r ++ rest) =
    w.1 ∙ sets-eq (record_bytes r) buffer place (omega arith) ∙ append_assoc (take place buffer) (record_bytes r) rest in
    let there : drop place (leaves_for buffer place r) ≡ record_bytes r ++ rest =
    ap (drop place) put ∙ drop_at (take place buffer) (record_bytes r ++ rest) place (length-take-le place buffer (omega arith)) in
    (w.0, ap (λ b. reader_answers b before) there ∙ read_front before r rest q)

pub write_after_read : WriteAfterRead
write_after_read bytes b before r l e buffer place near room =
    let y = read_yielded bytes before r l e in
    let w = written buffer place before r y.follows near (subst (λ n. place + n ≤ length buffer) y.size room) in
    let same : take l bytes ≡ record_bytes r =
    ap (take l) (y.front b) ∙ take_at (record_bytes r) (drop l bytes) l (record_length_lem r ∙ sym y.size) in
    (w.0 ∙ ap (λ n. Ok (place + n)) (sym y.size), w.1 ∙ ap (sets buffer place) (sym same))

-- A whole schedule through the writer

-- all of the records are taken, and their bytes stand from a place on
abbrev AllWritten : List ℕ → ℕ → List Record → List ℕ → Type 0
AllWritten buffer place rs bytes = written_in_turn rs (Ok place) buffer ≡ (Ok (place + length bytes), sets buffer place bytes)

-- one record, and then the others
turn : (buffer : List ℕ) (place : ℕ) (before : Option Header) (r : Record) (rs : List Record) (rest : List ℕ) → may_follow before r ≡ true
    → place + length (record_bytes r ++ rest) ≤ longest → place + length (record_bytes r ++ rest) ≤ length buffer
    → ((buffer : List ℕ) → place + record_length r + length rest ≤ length buffer → AllWritten buffer (place + record_length r) rs rest)
    → AllWritten buffer place (r ∷ rs) (record_bytes r ++ rest)
turn buffer place before r rs rest q near room next =
    let size = front_length r rest in
    let w = written buffer place before r q (omega arith) (omega arith) in
    let put : List ℕ = sets buffer place (record_bytes r) in
    let end : place + record_length r + length rest ≡ place + length (record_bytes r ++ rest) = omega arith in
    ap₂ (λ (x : Result ℕ Refused) (b : List ℕ). written_in_turn rs x b) w.0 w.1
    ∙ next put (omega (arith, length-sets buffer place (record_bytes r)))
    ∙ ap₂ (λ (n : ℕ) (b : List ℕ). (Ok n, b)) end
    (ap (λ n. sets put (place + n) rest) (sym (record_length_lem r)) ∙ sym (sets_append buffer place (record_bytes r) rest))

steps_in_turn : (h : Header) → header_in_range h ≡ true → (steps : List Step) → AllInRange h.n steps → (buffer : List ℕ) (place : ℕ)
    → place + length (steps_bytes steps) ≤ longest → place + length (steps_bytes steps) ≤ length buffer
    → AllWritten buffer place (map step_record steps) (steps_bytes steps)
steps_in_turn h g [] q buffer place near room = rw (add-zero place) refl
steps_in_turn h g (s ∷ ss) q buffer place near room =
    let r : Record = step_record s in
    let size = front_length r (steps_bytes ss) in
    turn buffer place (Some h) r (map step_record ss) (steps_bytes ss) (step_follows h s g q.0) near room
    (λ b enough. steps_in_turn h g ss q.1 b (place + record_length r) (omega arith) enough)

pub written_in_turn_lem : WrittenInTurn
written_in_turn_lem buffer h steps g q near room =
    let bytes : List ℕ = schedule_bytes h steps in
    turn buffer 0 None (header_record h) (map step_record steps) (steps_bytes steps) (header_follows h g) (omega arith) (omega arith)
    (λ b enough. steps_in_turn h g steps q b (0 + record_length (header_record h)) (omega (arith, front_length (header_record h) (steps_bytes steps))) enough)
    ∙ ap (λ n. (Ok n, sets buffer 0 bytes)) (zero-add (length bytes))
