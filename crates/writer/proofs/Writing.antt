-- A record that may follow is one that the writer takes, since n is at most 32, and is put as its bytes. Assumes nothing.
use mathlib.Core.Path.{◌≡◌, ap, ◌∙◌}
use mathlib.Core.Bool.{Bool, true, false, cond}
use mathlib.Core.List.{List}
use Prim.Native.Nat.{ℕ, ◌+◌, ◌≤◌}
use native.Mathlib.Omega.{arith}
use lib.ListN.{length}
use lib.Seq.{sets}
use borrow.Author.Tests.{le-ltb, le-leb}
use Rattle.std.specs.Prelude.{Option, Some, None, Ok, Err}
use Rattle.number.specs.Refusal.{refused}
use Rattle.number.proofs.Laws.{and_left, and_right, and_true, is_number_lem}
use Rattle.kind.specs.Kind.{kind_number, kind_of, is_header, room}
use Rattle.kind.specs.Step.{numbers_in_range}
use Rattle.kind.proofs.Numbers.{kind_numbers, more_tested, room_most}
use Rattle.writer.specs.Types.{Kind, Header, Record, Refusal}
use Rattle.schedule.specs.Record.{record_by_numbers, record_header, header_in_range, record_in_range, record_length, record_bytes, longest}
use Rattle.schedule.specs.Reader.{is_placed, in_range_after}
use Rattle.writer.specs.Writer.{is_writable, room_answer, record_answer, leaves}
use Rattle.schedule.specs.RoundTrip.{may_follow}
use Rattle.writer.specs.RoundTrip.{answers_for, leaves_for}
use Rattle.schedule.proofs.Laws.{header_room}
use Rattle.schedule.proofs.Records.{record_with}

more_range : (n : ℕ) (r : Record) → n ≤ room Kind.WideHeader → record_in_range n r ≡ true → record_in_range (room Kind.WideHeader) r ≡ true
more_range n r h q = by (is_header r.kind) q
  where
    by : (b : Bool) → cond b (header_in_range (record_header r)) (numbers_in_range n (kind_number r.kind) r.first r.second) ≡ true
        → cond b (header_in_range (record_header r)) (numbers_in_range (room Kind.WideHeader) (kind_number r.kind) r.first r.second) ≡ true
    by true q = q
    by false q = more_tested n (room Kind.WideHeader) h (kind_number r.kind) r.first r.second q

after_writable : (before : Option Header) (r : Record) → in_range_after before r ≡ true → record_in_range (room Kind.WideHeader) r ≡ true
after_writable None r q = more_range 0 r (omega arith) q
after_writable (Some h) r q =
    more_range h.n r (omega (arith, (header_room h (and_left (header_in_range h) _ q)).1, room_most h.kind)) (and_right (header_in_range h) _ q)

pub written : (buffer : List ℕ) (place : ℕ) (before : Option Header) (r : Record) → may_follow before r ≡ true → place ≤ longest
    → place + record_length r ≤ length buffer
    → (answers_for (length buffer) place r ≡ Ok (place + record_length r)) × (leaves_for buffer place r ≡ sets buffer place (record_bytes r))
written buffer place before r q near room = (answered, ap (leaves buffer place r') answered ∙ ap (λ (x : Record). sets buffer place (record_bytes x)) same)
  where
    k : Kind
    k = r.kind

    r' : Record
    r' = record_by_numbers (kind_number k) r.first r.second

    same : r' ≡ r
    same = ap (λ (x : Kind). record_with x r.first r.second) (kind_numbers.decoded k)

    taken : is_writable place r ≡ true
    taken = and_true _ _ (le-leb place longest near) (after_writable before r (and_right (is_placed before k) _ q))

    answered : answers_for (length buffer) place r ≡ Ok (place + record_length r)
    answered =
        ap (λ b. cond b (record_answer (length buffer) place r') (Err (refused Refusal.UnknownKind place))) (is_number_lem kind_number kind_of kind_numbers k)
        ∙ ap (record_answer (length buffer) place) same
        ∙ ap (λ b. cond b (room_answer (length buffer) (place + record_length r)) (Err (refused Refusal.OutOfRange place))) taken
        ∙ ap (λ b. cond b (Err (refused Refusal.TooShort (place + record_length r))) (Ok (place + record_length r))) (le-ltb (length buffer) (place + record_length r) room)
