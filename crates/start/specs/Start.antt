-- Request 2026-04: a run may start from a tail of 320 bytes instead of from fresh. Its bytes are then steps alone, and there may be none. Order of
-- refusals: 1; 10 and 5 of the tail; records from the left, each 2, 3, 4, 5. Assumes nothing.
use Rattle.std.specs.Prelude.{◌≡◌, cond, List, ℕ, suc, ◌≤◌, ◌<◌, eqb, ltb, length, Option, Some, None, Result, Ok, Err, MatchResult, IsErrAnd}
use Rattle.number.specs.Refusal.{accepted, refused, by_number, with_number}
use Rattle.schedule.specs.Record.{longest}
use Rattle.schedule.specs.Context.{context_of}
use Rattle.schedule.specs.Schedule.{Reading, Refused, steps_from}
use Rattle.state.specs.Fields.{fields}
use Rattle.tail.specs.Tail.{release_of, header_of, tail_in_range}
use Rattle.form.specs.Form.{form_of, wide, tail_length, tail_at}
use Rattle.passes.specs.Pass.{Validated, validated, HandsOn}
use Rattle.start.specs.Types.{Kind, Header, Context, Release, Start, Refusal, Numbered}
use Rattle.start.specs.Types as types

-- a call count over 54,000 is out of range
abbrev pub most_calls : ℕ
most_calls = 54000

-- what refuses a tail under a header of that kind, where it is moved and where a run starts from it: 10 for one of another length, then 5 for a field
-- out of range, a call count over 54,000 or a forbidden pair; or nothing does
abbrev pub tail_refusal : Kind → List ℕ → Option Refusal
tail_refusal k tail =
    cond (eqb (length tail) (tail_length (form_of k))) (cond (tail_in_range k (suc most_calls) (tail_at (form_of k) tail)) None (Some Refusal.OutOfRange))
    (Some Refusal.WrongLength)

-- what a run starts from: the header that the tail's n and votes are of, and its release

abbrev pub start_header : List ℕ → Header
start_header tail = header_of Kind.WideHeader (tail_at wide tail)

abbrev pub start_release : List ℕ → Release
start_release tail = release_of (tail_at wide tail)

-- the steps under a header, or the first refusal, where this refuses the tail

abbrev pub unless_refused : Option Refusal → Reading → Reading
unless_refused None x = x
unless_refused (Some k) x = Refused k 0

abbrev pub read_under : Option Refusal → Header → List ℕ → Reading
read_under refusal h bytes = cond (ltb longest (length bytes)) (Refused Refusal.EmptyOrTooLong 0) (unless_refused refusal (steps_from h 0 bytes 0))

-- of a run from a tail
abbrev pub read_from : List ℕ → List ℕ → Reading
read_from tail bytes = read_under (tail_refusal Kind.WideHeader tail) (start_header tail) bytes

-- What the code makes of a tail: what refuses it, or its header with the mask of all participants, and its release as numbers and store

abbrev pub start_at : Kind → List ℕ → Start
start_at k tail =
    record {
      context = context_of (header_of k (tail_at (form_of k) tail));
      numbers = fields (release_of (tail_at (form_of k) tail));
      store = (release_of (tail_at (form_of k) tail)).store;
    }

abbrev pub unless : Option Refusal → Start → Result Start Refusal
unless None s = Ok s
unless (Some k) s = Err k

abbrev pub start_of : Kind → List ℕ → Result Start Refusal
start_of k tail = unless (tail_refusal k tail) (start_at k tail)

-- The first pass of a run from a start, or from a tail that is refused: the start, and how many steps there are

abbrev pub with_start : Start → Validated → Result (Start × ℕ) types.Refused
with_start s (Ok (c, count)) = Ok (s, count)
with_start s (Err k) = Err k

abbrev pub validated_from : Result Start Refusal → List ℕ → Result (Start × ℕ) types.Refused
validated_from (Ok s) bytes = with_start s (validated (read_under None s.context.header bytes))
validated_from (Err k) bytes = cond (ltb longest (length bytes)) (Err (refused Refusal.EmptyOrTooLong 0)) (Err (refused k 0))

-- Request 2026-05: in a run from a tail that is not refused, what is handed on is of the tail's header, with the mask of its n: also where a record is
-- refused; in the reading; and in the start that the first pass answers. Proved in proofs/Begun.antt
pub record RunFromMask : Type 0 where
  pub header : (tail bytes : List ℕ) → tail_refusal Kind.WideHeader tail ≡ None → HandsOn bytes (context_of (start_header tail))
  pub answer : (tail bytes : List ℕ) (c : Context) (count : ℕ) → validated (read_from tail bytes) ≡ Ok (c, count) → c ≡ context_of (start_header tail)
  pub handed_on : (tail bytes : List ℕ) (s : Start) (count : ℕ) → validated_from (start_of Kind.WideHeader tail) bytes ≡ Ok (s, count)
      → s.context ≡ context_of (start_header tail)

-- What the code answers in the first pass, whatever a refusal goes on as: `gives` says it of a refusal of the bytes, and what refuses the start goes on
-- as it is
pub record ValidatedFrom {E : Type 0} (gives : types.Refused → E → Type 0) (start : Result Start E) (bytes : List ℕ) (y : Result (Start × ℕ) E) : Type 0 where
  pub too_long : longest < length bytes → IsErrAnd y (gives (refused Refusal.EmptyOrTooLong 0))
  pub by_start : (e : E) → length bytes ≤ longest → start ≡ Err e → y ≡ Err e
  pub by_bytes : (s : Start) → start ≡ Ok s
      → MatchResult (validated (read_under None s.context.header bytes)) (λ r. y ≡ Ok (s, r.1)) (λ k. IsErrAnd y (gives k))

-- of a tail: its refusal goes on with place 0
abbrev pub placed : Result Start Refusal → Result Start types.Refused
placed (Ok s) = Ok s
placed (Err k) = Err (refused k 0)

-- of any number that refuses a start, 0 where none does: the same context with the count of steps, or the first refusal

abbrev pub start_under : ℕ → Start → Result Start Numbered
start_under refusal s = cond (eqb refusal accepted) (Ok s) (Err (record { number = refusal; value = 0 }))

abbrev pub validated_under : ℕ → Header → List ℕ → Result (Context × ℕ) Numbered
validated_under refusal h bytes =
    cond (ltb longest (length bytes)) (Err (by_number (refused Refusal.EmptyOrTooLong 0)))
    (cond (eqb refusal accepted) (with_number (validated (steps_from h 0 bytes 0))) (Err (record { number = refusal; value = 0 })))

abbrev pub with_context : Result (Start × ℕ) Numbered → Result (Context × ℕ) Numbered
with_context (Ok (s, count)) = Ok (s.context, count)
with_context (Err r) = Err r

-- Proved in proofs/AnyRefusal.antt
pub record AnyRefusal : Type 0 where
  pub of_tail : (start : Result Start Refusal) (bytes : List ℕ) (y : Result (Start × ℕ) types.Refused)
      → ValidatedFrom (λ k r. r ≡ k) (placed start) bytes y → y ≡ validated_from start bytes
  pub of_number : (refusal : ℕ) (s : Start) (bytes : List ℕ) (y : Result (Start × ℕ) Numbered) → s.context ≡ context_of s.context.header
      → ValidatedFrom (λ k r. r ≡ by_number k) (start_under refusal s) bytes y → with_context y ≡ validated_under refusal s.context.header bytes
