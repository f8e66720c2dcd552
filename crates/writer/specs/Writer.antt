-- The writer: one record at a given place, 0 to 32,768, of a lent buffer. It knows no n. Order: 2, 5, 6. Assumes nothing.
use Rattle.std.specs.Prelude.{Bool, cond, ◌&&◌, List, ℕ, ◌+◌, leb, ltb, length, Result, Ok, Err}
use Rattle.std.proofs.lemmas.List.Edits.{sets}
use Rattle.number.specs.Refusal.{Handed, hands, accepted, refused, refused_hands}
use Rattle.kind.specs.Kind.{is_kind, room}
use Rattle.writer.specs.Types.{Kind, Record, Refusal, Refused}
use Rattle.schedule.specs.Record.{record_by_numbers, record_in_range, record_length, record_bytes, longest}

-- participants and logs 1 to 32, parties 0 to 32: the most that a header has room for; a header by its own kind
abbrev pub is_writable : ℕ → Record → Bool
is_writable place r = leb place longest && record_in_range (room Kind.WideHeader) r

-- the place after the record, where the buffer has room for that many bytes
abbrev pub room_answer : ℕ → ℕ → Result ℕ Refused
room_answer room end = cond (ltb room end) (Err (refused Refusal.TooShort end)) (Ok end)

abbrev pub record_answer : ℕ → ℕ → Record → Result ℕ Refused
record_answer room place r = cond (is_writable place r) (room_answer room (place + record_length r)) (Err (refused Refusal.OutOfRange place))

-- what the writer answers, with a buffer of `room` bytes
abbrev pub writer_answers : ℕ → ℕ → ℕ → ℕ → ℕ → Result ℕ Refused
writer_answers room place k a b = cond (is_kind k) (record_answer room place (record_by_numbers k a b)) (Err (refused Refusal.UnknownKind place))

-- what each case of the answer hands over: 0 and the place after the record; the refusal's number with the place given, or the length needed
abbrev pub written_hands : Result ℕ Refused → Handed
written_hands (Ok end) = hands accepted end
written_hands (Err k) = refused_hands k

-- what the answer hands over
abbrev pub writer_hands : ℕ → ℕ → ℕ → ℕ → ℕ → Handed
writer_hands room place k a b = written_hands (writer_answers room place k a b)

-- what it leaves in the buffer

abbrev pub leaves : List ℕ → ℕ → Record → Result ℕ Refused → List ℕ
leaves buffer place r (Ok end) = sets buffer place (record_bytes r)
leaves buffer place r (Err k) = buffer

abbrev pub writer_leaves : List ℕ → ℕ → ℕ → ℕ → ℕ → List ℕ
writer_leaves buffer place k a b = leaves buffer place (record_by_numbers k a b) (writer_answers (length buffer) place k a b)

-- A whole text at the front of a buffer: the length written, or 6 with the length needed, and then the buffer is as it was

abbrev pub text_answer : ℕ → List ℕ → Result ℕ Refused
text_answer room text = room_answer room (length text)

abbrev pub text_left : List ℕ → List ℕ → List ℕ
text_left buffer text = cond (ltb (length buffer) (length text)) buffer (sets buffer 0 text)
