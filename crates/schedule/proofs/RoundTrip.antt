-- Nothing is lost between bytes and steps, either way, and a refusal is the first from the left: the statements of specs/RoundTrip.antt.
-- Assumes nothing.
use mathlib.Core.Path.{◌≡◌, ap, subst, ◌∙◌}
use mathlib.Core.List.{List, [], ◌∷◌, ◌++◌, append_assoc}
use Prim.Native.Nat.{ℕ, zero, suc, ◌/◌, ◌≤◌}
use native.Mathlib.Omega.{arith}
use lib.ListN.{length}
use borrow.Author.Tests.{lt-ltb, le-ltb}
use Rattle.number.specs.Low.{low_bytes}
use Rattle.kind.specs.Kind.{first_width, second_width}
use Rattle.kind.proofs.Numbers.{kind_most}
use Rattle.schedule.specs.Types.{Step, Header, Record, Refusal}
use Rattle.schedule.specs.Record.{header_record, step_record, record_length, record_bytes, longest}
use Rattle.schedule.specs.Schedule.{Accepted, Refused, read_schedule, steps_bytes}
use Rattle.schedule.specs.RoundTrip.{BytesKept, StepsKept, ReadInRange, AllBytes, BytesFit, RefusalOf, too_long, at_header, at_step, FirstRefusal}
use Rattle.schedule.proofs.Reading.{steps_read, after_header, SaysWhole, read_says, refused_after, header_more}

pub steps_kept : StepsKept
steps_kept h steps g q fits =
    after_header h g (steps_bytes steps) fits ∙ steps_read h g steps q (record_length (header_record h))

pub bytes_kept : BytesKept
bytes_kept bytes b h steps e = (subst (SaysWhole bytes) e (read_says bytes)).same b

pub read_in_range : ReadInRange
read_in_range bytes h steps e = let x = subst (SaysWhole bytes) e (read_says bytes) in (x.header, x.ranged, x.short)

-- the steps have fewer bytes than the longest schedule
pub few_bytes : (bytes : List ℕ) (h : Header) (steps : List Step) → read_schedule bytes ≡ Accepted h steps → length (steps_bytes steps) ≤ longest
few_bytes bytes h steps e =
    let x = subst (SaysWhole bytes) e (read_says bytes) in
    omega (arith, x.long, header_more h (steps_bytes steps), x.short)

-- Refusals

is_refused : (bytes : List ℕ) (k : Refusal) (place : ℕ) → RefusalOf bytes k place → read_schedule bytes ≡ Refused k place
is_refused bytes k place (too_long h) = simp (lt-ltb longest (length bytes) h)
is_refused bytes k place (at_header fits e) = simp (le-ltb longest (length bytes) fits, e)
is_refused bytes k place (at_step h steps rest fits g q split some e) =
    ap read_schedule split
    ∙ ap read_schedule (append_assoc (record_bytes (header_record h)) (steps_bytes steps) rest)
    ∙ after_header h g (steps_bytes steps ++ rest) (subst (λ b. length b ≤ longest) (split ∙ append_assoc (record_bytes (header_record h)) (steps_bytes steps) rest) fits)
    ∙ refused_after h g steps q (record_length (header_record h)) rest k some e
    ∙ ap (Refused k) (header_more h (steps_bytes steps))

pub first_refusal : FirstRefusal
first_refusal = record { found = λ bytes b k place e. (subst (SaysWhole bytes) e (read_says bytes)).first b; given = is_refused }

-- Bytes

pub all_append : (xs ys : List ℕ) → AllBytes xs → AllBytes ys → AllBytes (xs ++ ys)
all_append [] ys p q = q
all_append (x ∷ xs) ys p q = (p.0, all_append xs ys p.1 q)

low_bytes_lem : (w x : ℕ) → AllBytes (low_bytes w x)
low_bytes_lem zero x = tt
low_bytes_lem (suc w) x = (omega arith, low_bytes_lem w (x / 256))

record_bytes_lem : (r : Record) → AllBytes (record_bytes r)
record_bytes_lem r = (
  omega (arith, kind_most r.kind),
  all_append (low_bytes (first_width r.kind) r.first) (low_bytes (second_width r.kind) r.second) (low_bytes_lem (first_width r.kind) r.first) (low_bytes_lem (second_width r.kind) r.second),
)

steps_bytes_lem : (steps : List Step) → AllBytes (steps_bytes steps)
steps_bytes_lem [] = tt
steps_bytes_lem (s ∷ ss) = all_append (record_bytes (step_record s)) (steps_bytes ss) (record_bytes_lem (step_record s)) (steps_bytes_lem ss)

pub bytes_fit : BytesFit
bytes_fit h steps = all_append (record_bytes (header_record h)) (steps_bytes steps) (record_bytes_lem (header_record h)) (steps_bytes_lem steps)
