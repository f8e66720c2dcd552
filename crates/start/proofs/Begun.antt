-- A run from a tail that was validated starts from what the second pass asks for. Assumes nothing.
use mathlib.Core.Path.{◌≡◌, refl, sym, ap, subst, ◌∙◌}
use mathlib.Core.Bool.{Bool, true, false, cond}
use mathlib.Core.List.{List, flatten}
use Prim.Native.Nat.{ℕ}
use native.Mathlib.Omega.{arith}
use lib.Dec.{ltb}
use lib.ListN.{length, get_or}
use Rattle.std.specs.Prelude.{Option, Some, None, Result, Ok, Err}
use Rattle.number.specs.Refusal.{refused}
use Rattle.schedule.specs.Record.{longest}
use Rattle.schedule.specs.Context.{context_of}
use Rattle.schedule.specs.Schedule.{Refused}
use Rattle.state.specs.Fields.{fields, n_in, release_in}
use Rattle.state.proofs.Parts.{count_in_lem}
use Rattle.state.proofs.Filling.{release_in_lem}
use Rattle.passes.specs.Pass.{Validated, validated, reading_from, steps_of, Ready}
use Rattle.passes.proofs.Passed as passed
use Rattle.passes.proofs.Passed.{counted, hands_on}
use Rattle.start.specs.Types.{Kind, Header, Context, Release, Start, Refusal}
use Rattle.start.specs.Types as types
use Rattle.start.specs.Start.{tail_refusal, start_header, start_release, read_under, read_from, RunFromMask, start_at, unless, start_of, with_start, validated_from}
use Rattle.start.specs.Kept.{RestRead}
use Rattle.start.proofs.Taken.{start_places, few_calls}
use Rattle.start.proofs.Answered.{read_steps}
use Rattle.start.proofs.Kept.{header_there, rest_bytes_kept}

start_n : (tail : List ℕ) → n_in (fields (start_release tail)) ≡ (start_release tail).n
unfolding fields flatten
start_n tail = refl

abbrev here : List ℕ → Start
here tail = start_at Kind.WideHeader tail

-- the first pass of a run from a tail is of the reading from it
passed_from : (tail bytes : List ℕ) → validated_from (start_of Kind.WideHeader tail) bytes ≡ with_start (here tail) (validated (read_from tail bytes))
passed_from tail bytes = go (tail_refusal Kind.WideHeader tail)
  where
    long : (b : Bool) (k : Refusal) → cond b (Err (refused Refusal.EmptyOrTooLong 0)) (Err (refused k 0))
        ≡ with_start (here tail) (validated (cond b (Refused Refusal.EmptyOrTooLong 0) (Refused k 0)))
    long true k = refl
    long false k = refl

    go : (x : Option Refusal) → validated_from (unless x (here tail)) bytes ≡ with_start (here tail) (validated (read_under x (start_header tail) bytes))
    go None = refl
    go (Some k) = long (ltb longest (length bytes)) k

-- what a run from a tail begins with, where the first pass refuses nothing
pub record BegunFrom (tail bytes : List ℕ) (s : Start) (count : ℕ) : Type 0 where
  pub steps : validated (read_from tail bytes) ≡ Ok (s.context, count)
  -- the steps begin at once
  pub at_once : reading_from bytes s.context.header 0 ≡ read_from tail bytes
  -- the numbers and the store represent the release that the tail holds
  pub start_back : release_in s.numbers s.store ≡ start_release tail
  pub ready : Ready bytes 0 s.context count s.numbers s.store

module _ (tail bytes : List ℕ) (c : Context) (count : ℕ) (e : validated (read_from tail bytes) ≡ Ok (c, count)) where
  was_read : RestRead tail bytes c.header (steps_of (read_from tail bytes))
  was_read = rest_bytes_kept tail bytes c.header (steps_of (read_from tail bytes)) (counted (read_from tail bytes) c count e).accepted

  same_context : c ≡ context_of (start_header tail)
  same_context = (counted (read_from tail bytes) c count e).context ∙ ap context_of was_read.under

  at_once : reading_from bytes (start_header tail) 0 ≡ read_from tail bytes
  at_once = sym (read_steps (tail_refusal Kind.WideHeader tail) (start_header tail) bytes was_read.short was_read.tail_taken)

  back : release_in (fields (start_release tail)) (start_release tail).store ≡ start_release tail
  back = release_in_lem (start_release tail) (start_places Kind.WideHeader tail) (λ p. omega (arith, few_calls Kind.WideHeader tail was_read.tail_taken p))

  begun_here : BegunFrom tail bytes (here tail) count
  begun_here =
      record {
        steps = e ∙ ap (λ (d : Context). Ok (d, count)) same_context;
        at_once = at_once;
        start_back = back;
        ready =
            record {
              within = omega arith;
              header = header_there tail was_read.tail_taken;
              steps = ap validated at_once ∙ e ∙ ap (λ (d : Context). Ok (d, count)) same_context;
              numbers = ap fields (sym back);
              same_n = start_n tail;
              countable = λ p q. omega (arith, ap (λ (r : Release). get_or r.calls p 0) back, count_in_lem (start_release tail) (start_places Kind.WideHeader tail) p q, few_calls Kind.WideHeader tail was_read.tail_taken p, was_read.short);
            };
      }

module _ (tail bytes : List ℕ) {y : Result (Start × ℕ) types.Refused} (e : y ≡ validated_from (start_of Kind.WideHeader tail) bytes) where
  pub begun_from : (s : Start) (count : ℕ) → y ≡ Ok (s, count) → BegunFrom tail bytes s count
  begun_from s count d = go (validated (read_from tail bytes)) refl (sym (e ∙ passed_from tail bytes) ∙ d)
    where
      go : (x : Validated) → validated (read_from tail bytes) ≡ x → with_start (here tail) x ≡ Ok (s, count) → BegunFrom tail bytes s count
      go (Ok (c, n)) q p =
          let w : ◌≡◌ {A = Start × ℕ} (here tail, n) (s, count) = cc in
          subst (λ (t : Start). BegunFrom tail bytes t count) (ap (λ (t : Start × ℕ). t.0) w)
          (begun_here tail bytes c count (q ∙ ap (λ (k : ℕ). Ok (c, k)) (ap (λ (t : Start × ℕ). t.1) w)))
      go (Err k) q p = let z : ◌≡◌ {A = ℕ} 0 1 = cc in absurd (omega arith)

  pub refused_from : (k : types.Refused) → y ≡ Err k → read_from tail bytes ≡ Refused k.refusal k.value
  refused_from k d = go (validated (read_from tail bytes)) refl (sym (e ∙ passed_from tail bytes) ∙ d)
    where
      go : (x : Validated) → validated (read_from tail bytes) ≡ x → with_start (here tail) x ≡ Err k → read_from tail bytes ≡ Refused k.refusal k.value
      go (Ok (c, n)) q p = let z : ◌≡◌ {A = ℕ} 0 1 = cc in absurd (omega arith)
      go (Err j) q p = let w : j ≡ k = cc in passed.refused (read_from tail bytes) k.refusal k.value (q ∙ ap (λ (r : types.Refused). Err r) w)

pub run_from_mask : RunFromMask
run_from_mask =
    record {
      header = λ tail bytes e. hands_on bytes (start_header tail) (header_there tail e);
      answer = λ tail bytes c count e.
          let x = counted (read_from tail bytes) c count e in
          x.context ∙ ap context_of (rest_bytes_kept tail bytes c.header (steps_of (read_from tail bytes)) x.accepted).under;
      handed_on = λ tail bytes s count e. same_context tail bytes s.context count (begun_from tail bytes refl s count e).steps;
    }
