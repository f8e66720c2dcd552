-- Nothing is lost between the bytes of a run from a tail and its steps, either way, and a refusal is the first: the statements of specs/Kept.antt.
-- Assumes nothing.
use mathlib.Core.Path.{◌≡◌, refl, sym, ap, subst, ◌∙◌}
use mathlib.Core.Bool.{Bool, true, false, cond}
use mathlib.Core.List.{List}
use Prim.Native.Nat.{ℕ, ◌≤◌}
use native.Mathlib.Omega.{arith}
use native.Mathlib.Nat.{zero-add}
use lib.Dec.{ltb}
use lib.ListN.{length}
use borrow.Author.Tests.{ltb-true, ltb-false}
use Rattle.std.specs.Prelude.{Option, Some, None}
use Rattle.number.specs.Refusal.{refusal_number, refused}
use Rattle.number.proofs.Laws.{and_left}
use Rattle.schedule.specs.Record.{header_in_range, longest}
use Rattle.schedule.specs.Schedule.{Reading, Accepted, Refused, steps_from, steps_bytes}
use Rattle.schedule.specs.RoundTrip.{AllBytes}
use Rattle.schedule.proofs.Reading.{Says, read_from_lem, steps_read, refused_number, refused_after}
use Rattle.start.specs.Types.{Kind, Refusal}
use Rattle.start.specs.Start.{tail_refusal, unless_refused, start_header, read_from}
use Rattle.start.specs.Kept.{RestStepsKept, RestRead, RestBytesKept, RestRefusal, too_long, by_tail, at_step, FirstRestRefusal}
use Rattle.start.proofs.Taken.{refusal_most, ranged}
use Rattle.start.proofs.Answered.{read_long, read_refused, read_steps}

-- the header of a tail that nothing refuses
pub header_there : (tail : List ℕ) → tail_refusal Kind.WideHeader tail ≡ None → header_in_range (start_header tail) ≡ true
header_there tail e = and_left (header_in_range (start_header tail)) _ (ranged Kind.WideHeader tail e)

pub rest_steps_kept : RestStepsKept
rest_steps_kept tail steps e q fits =
    read_steps (tail_refusal Kind.WideHeader tail) (start_header tail) (steps_bytes steps) fits e ∙ steps_read (start_header tail) (header_there tail e) steps q 0

-- what a reading says of the tail and the bytes

pub record RestStopped (tail bytes : List ℕ) (k : Refusal) (place : ℕ) : Type 0 where
  pub number : refusal_number k ≤ refusal_number Refusal.WrongLength
  pub near : place ≤ longest
  pub first : AllBytes bytes → RestRefusal tail bytes k place

abbrev pub RestSays : List ℕ → List ℕ → Reading → Type 0
RestSays tail bytes (Accepted h steps) = RestRead tail bytes h steps
RestSays tail bytes (Refused k place) = RestStopped tail bytes k place

module _ (tail bytes : List ℕ) where
  from_steps : length bytes ≤ longest → tail_refusal Kind.WideHeader tail ≡ None → (x : Reading) → Says (start_header tail) 0 bytes x → RestSays tail bytes x
  from_steps fits e (Accepted h steps) y =
      record {
        tail_taken = e;
        under = y.0;
        header = rw y.0 (header_there tail e);
        ranged = rw y.0 y.1;
        short = fits;
        long = y.2;
        kept = y.3;
      }
  from_steps fits e (Refused k place) y =
      record {
        number = omega (arith, refused_number y.rest (Some (start_header tail)) (refused k 0) y.refused);
        near = omega (arith, y.there, y.long);
        first = λ b.
            subst (RestRefusal tail bytes k) (sym (y.there ∙ zero-add (length (steps_bytes y.steps))))
            (at_step y.steps y.rest fits e y.ranged (y.split b) y.some y.refused);
      }

  pub says : RestSays tail bytes (read_from tail bytes)
  says = by_length (ltb longest (length bytes)) refl
    where
      by_refusal : length bytes ≤ longest → (x : Option Refusal) → tail_refusal Kind.WideHeader tail ≡ x → RestSays tail bytes (unless_refused x (steps_from (start_header tail) 0 bytes 0))
      by_refusal fits None e = from_steps fits e (steps_from (start_header tail) 0 bytes 0) (read_from_lem (start_header tail) 0 bytes)
      by_refusal fits (Some k) e = record { number = refusal_most Kind.WideHeader tail k e; near = omega arith; first = λ b. by_tail fits e }

      by_length : (b : Bool) → ltb longest (length bytes) ≡ b
          → RestSays tail bytes (cond b (Refused Refusal.EmptyOrTooLong 0) (unless_refused (tail_refusal Kind.WideHeader tail) (steps_from (start_header tail) 0 bytes 0)))
      by_length true e = record { number = omega arith; near = omega arith; first = λ b. too_long (ltb-true longest (length bytes) e) }
      by_length false e = by_refusal (ltb-false longest (length bytes) e) (tail_refusal Kind.WideHeader tail) refl

pub rest_bytes_kept : RestBytesKept
rest_bytes_kept tail bytes h steps e = subst (RestSays tail bytes) e (says tail bytes)

is_refused : (tail bytes : List ℕ) (k : Refusal) (place : ℕ) → RestRefusal tail bytes k place → read_from tail bytes ≡ Refused k place
is_refused tail bytes k place (too_long more) = read_long (tail_refusal Kind.WideHeader tail) (start_header tail) bytes more
is_refused tail bytes k place (by_tail fits e) = read_refused (tail_refusal Kind.WideHeader tail) (start_header tail) bytes k fits e
is_refused tail bytes k place (at_step steps rest fits e q split some refused) =
    read_steps (tail_refusal Kind.WideHeader tail) (start_header tail) bytes fits e
    ∙ ap (λ l. steps_from (start_header tail) 0 l 0) split
    ∙ refused_after (start_header tail) (header_there tail e) steps q 0 rest k some refused
    ∙ ap (Refused k) (zero-add (length (steps_bytes steps)))

pub first_rest_refusal : FirstRestRefusal
first_rest_refusal = record { found = λ tail bytes b k place e. (subst (RestSays tail bytes) e (says tail bytes)).first b; given = is_refused }
