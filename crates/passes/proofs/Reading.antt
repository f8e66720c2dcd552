-- The steps from a place of a schedule on: a record that is read comes first, a refusal ends them, and their count. Assumes nothing.
use mathlib.Core.Path.{◌≡◌, refl, sym, ap, ◌∙◌}
use mathlib.Core.Bool.{true}
use mathlib.Core.List.{List, [], ◌∷◌}
use Prim.Native.Nat.{ℕ, suc, ◌+◌, ◌-◌, ◌≤◌, ◌<◌}
use native.Mathlib.Omega.{arith}
use lib.ListN.{length, take, drop, length-drop, drop_of_length-le}
use lib.Seq.{take_all, drop-drop}
use Rattle.std.specs.Prelude.{Some, Ok, Err}
use Rattle.number.specs.Refusal as number
use Rattle.kind.specs.Kind.{body_length}
use Rattle.kind.specs.Step.{step_kind, in_range}
use Rattle.schedule.specs.Record.{record_step, record_length}
use Rattle.schedule.specs.Reader.{reader_answers}
use Rattle.schedule.specs.Context.{context_of}
use Rattle.schedule.specs.Schedule.{Reading, Accepted, Refused, with_step, steps_from}
use Rattle.schedule.proofs.Records.{read_yielded, record_step_lem}
use Rattle.schedule.proofs.Reading.{read_on, refused_first, refused_at_first}
use Rattle.passes.specs.Types.{Step, Header, Context, Record}
use Rattle.passes.specs.Types as types
use Rattle.passes.specs.Pass.{Validated, reading_from, validated_after, steps_of}

-- a part to the end is what is left of the whole
pub tail_part : (s : List ℕ) (at : ℕ) → take (length s - at) (drop at s) ≡ drop at s
tail_part s at = take_all (length s - at) (drop at s) (simp length-drop (omega arith))

-- a record that is read: it stands within the schedule, its step is in range, and it comes first
pub record First (s : List ℕ) (h : Header) (at : ℕ) (r : Record) (l : ℕ) : Type 0 where
  pub some : 1 ≤ l
  -- as long as the record of its step
  pub size : l ≡ 1 + body_length (step_kind (record_step r))
  pub within : at + l ≤ length s
  pub ranged : in_range h.n (record_step r) ≡ true
  pub first : reading_from s h at ≡ with_step (record_step r) (reading_from s h (at + l))

module _ (s : List ℕ) (h : Header) (at : ℕ) (some : at < length s) where
  some_left : 0 < length (drop at s)
  some_left = simp length-drop (omega arith)

  pub read_first : (r : Record) (l : ℕ) → reader_answers (drop at s) (Some h) ≡ Ok (r, l) → First s h at r l
  read_first r l e =
      let y = read_yielded (drop at s) (Some h) r l e in
      record {
        some = omega (arith, y.size);
        size = y.size ∙ ap (λ (x : Record). record_length x) (sym (record_step_lem h r y.follows).0);
        within = omega (arith, y.fits, length-drop at s);
        ranged = (record_step_lem h r y.follows).1;
        first = read_on h at (drop at s) r l e ∙ ap (λ b. with_step (record_step r) (steps_from h (at + l) b 0)) (drop-drop l at s);
      }

  pub read_refused : (k : types.Refused) → reader_answers (drop at s) (Some h) ≡ Err k → reading_from s h at ≡ Refused k.refusal at
  read_refused k e =
      refused_first h at (drop at s) k.refusal some_left (e ∙ ap (λ p. Err (number.refused k.refusal p)) (refused_at_first (drop at s) (Some h) k e))

pub none_left : (s : List ℕ) (h : Header) (at : ℕ) → length s ≤ at → reading_from s h at ≡ Accepted h []
unfolding steps_from
none_left s h at end = ap (λ b. steps_from h at b 0) (drop_of_length-le s end)

-- one step more is counted
pub count_more : (m : ℕ) (s : Step) (x : Reading) → validated_after m (with_step s x) ≡ validated_after (m + 1) x
count_more m s (Accepted h steps) = ap (λ n. Ok (context_of h, n)) (omega arith)
count_more m s (Refused k p) = refl

-- What a count tells

pub count_same : (c d : Context) (a b : ℕ) → ◌≡◌ {A = Validated} (Ok (c, a)) (Ok (d, b)) → a ≡ b
count_same c d a b e = let p : ◌≡◌ {A = Context × ℕ} (c, a) (d, b) = cc in ap (λ (x : Context × ℕ). x.1) p

-- where a first step is counted, the others are steps, and it is below the count
pub one_more_lem : (i count : ℕ) (d : Context) (s : Step) (x : Reading) → validated_after i (with_step s x) ≡ Ok (d, count) → i < count
one_more_lem i count d s (Accepted h steps) c = omega (arith, count_same (context_of h) d (i + suc (length steps)) count c)
one_more_lem i count d s (Refused k p) c = let z : ◌≡◌ {A = ℕ} 0 1 = cc in absurd (omega arith)

pub step_first : (i count : ℕ) (d : Context) (s : Step) (x : Reading) → validated_after i (with_step s x) ≡ Ok (d, count)
    → steps_of (with_step s x) ≡ s ∷ steps_of x
step_first i count d s (Accepted h steps) c = refl
step_first i count d s (Refused k p) c = let z : ◌≡◌ {A = ℕ} 0 1 = cc in absurd (omega arith)
