-- What the first pass from a start says of a tail, and of any number that refuses one. Assumes nothing.
use mathlib.Core.Path.{◌≡◌, refl, sym, ap, subst, ◌∙◌}
use mathlib.Core.Bool.{Bool, true, false, cond}
use mathlib.Core.List.{List}
use Prim.Native.Nat.{ℕ, ◌≤◌}
use native.Mathlib.Omega.{arith}
use lib.Dec.{eqb, ltb}
use lib.ListN.{length}
use borrow.Author.Tests.{ltb-true, ltb-false}
use Rattle.std.specs.Prelude.{None, Result, Ok, Err, MatchResult, IsErrAnd}
use Rattle.number.specs.Refusal.{accepted, refused, by_number, with_number}
use Rattle.schedule.specs.Record.{longest}
use Rattle.schedule.specs.Context.{context_of}
use Rattle.schedule.specs.Schedule.{steps_from}
use Rattle.schedule.proofs.Reading.{Says, read_from_lem}
use Rattle.passes.specs.Pass.{Validated, validated}
use Rattle.passes.proofs.Passed.{counted}
use Rattle.start.specs.Types.{Kind, Header, Context, Start, Refusal, Numbered}
use Rattle.start.specs.Types as types
use Rattle.start.specs.Start.{read_under, start_of, with_start, validated_from, ValidatedFrom, placed, start_under, validated_under, with_context, AnyRefusal}
use Rattle.start.proofs.Answered.{read_steps, start_context}

-- an answer that is an error, and which
is_err : {A E : Type 0} (y : Result A E) (e : E) → IsErrAnd y (λ d. d ≡ e) → y ≡ Err e
is_err (Ok x) e p = absurd p
is_err {A} {E} (Err d) e p = ap (λ (k : E). Err k) p

of_tail : (start : Result Start Refusal) (bytes : List ℕ) (y : Result (Start × ℕ) types.Refused)
    → ValidatedFrom (λ k r. r ≡ k) (placed start) bytes y → y ≡ validated_from start bytes
of_tail (Ok s) bytes y v = go (validated (read_under None s.context.header bytes)) (v.by_bytes s refl)
  where
    go : (x : Validated) → MatchResult x (λ r. y ≡ Ok (s, r.1)) (λ k. IsErrAnd y (λ r. r ≡ k)) → y ≡ with_start s x
    go (Ok (c, count)) m = m
    go (Err k) m = is_err y k m
of_tail (Err k) bytes y v = go (ltb longest (length bytes)) refl
  where
    go : (b : Bool) → ltb longest (length bytes) ≡ b → y ≡ cond b (Err (refused Refusal.EmptyOrTooLong 0)) (Err (refused k 0))
    go true q = is_err y (refused Refusal.EmptyOrTooLong 0) (v.too_long (ltb-true longest (length bytes) q))
    go false q = v.by_start (refused k 0) (ltb-false longest (length bytes) q) refl

module _ (refusal : ℕ) (s : Start) (bytes : List ℕ) (y : Result (Start × ℕ) Numbered) where
  abbrev here : Header
  here = s.context.header

  of_number : s.context ≡ context_of here → ValidatedFrom (λ k r. r ≡ by_number k) (start_under refusal s) bytes y
      → with_context y ≡ validated_under refusal here bytes
  of_number own v = by_length (ltb longest (length bytes)) refl
    where
      counts : (x : Validated) → validated (steps_from here 0 bytes 0) ≡ x → MatchResult x (λ r. y ≡ Ok (s, r.1)) (λ k. IsErrAnd y (λ r. r ≡ by_number k))
          → with_context y ≡ with_number x
      counts (Ok (c, count)) e m =
          let x = counted (steps_from here 0 bytes 0) c count e in
          let said = subst (Says here 0 bytes) x.accepted (read_from_lem here 0 bytes) in
          let same : c ≡ s.context = x.context ∙ ap context_of said.0 ∙ sym own in
          ap with_context m ∙ ap (λ (d : Context). Ok (d, count)) (sym same)
      counts (Err k) e m = ap with_context (is_err y (by_number k) m)

      by_refusal : length bytes ≤ longest → (a : Bool) → eqb refusal accepted ≡ a
          → with_context y ≡ cond a (with_number (validated (steps_from here 0 bytes 0))) (Err (record { number = refusal; value = 0 }))
      by_refusal fits true q =
          let read = ap validated (read_steps None here bytes fits refl) in
          counts (validated (steps_from here 0 bytes 0)) refl (rw read at (v.by_bytes s (rw q refl)))
      by_refusal fits false q = ap with_context (v.by_start (record { number = refusal; value = 0 }) fits (rw q refl))

      by_length : (b : Bool) → ltb longest (length bytes) ≡ b
          → with_context y
          ≡ cond b (Err (by_number (refused Refusal.EmptyOrTooLong 0)))
          (cond (eqb refusal accepted) (with_number (validated (steps_from here 0 bytes 0))) (Err (record { number = refusal; value = 0 })))
      by_length true q = ap with_context (is_err y (by_number (refused Refusal.EmptyOrTooLong 0)) (v.too_long (ltb-true longest (length bytes) q)))
      by_length false q = by_refusal (ltb-false longest (length bytes) q) (eqb refusal accepted) refl

pub any_refusal : AnyRefusal
any_refusal = record { of_tail = of_tail; of_number = of_number }

-- A tail that was read, and its refusal taken to place 0, as `map_err` does

placed_start : (x : Result Start Refusal) (y : Result Start types.Refused) → MatchResult x (λ s. y ≡ Ok s) (λ k. IsErrAnd y (λ r. r ≡ refused k 0))
    → y ≡ placed x
placed_start (Ok s) y m = m
placed_start (Err k) y m = is_err y (refused k 0) m

placed_ok : (x : Result Start Refusal) (s : Start) → placed x ≡ Ok s → x ≡ Ok s
placed_ok (Ok t) s e = let same : t ≡ s = cc in ap (λ (r : Start). Ok r) same
placed_ok (Err k) s e = let z : ◌≡◌ {A = ℕ} 0 1 = cc in absurd (omega arith)

module _ (tail : List ℕ) (x : Result Start Refusal) (y : Result Start types.Refused) (read : x ≡ start_of Kind.WideHeader tail)
    (mapped : MatchResult x (λ s. y ≡ Ok s) (λ k. IsErrAnd y (λ r. r ≡ refused k 0))) where
  is_placed : y ≡ placed (start_of Kind.WideHeader tail)
  is_placed = placed_start x y mapped ∙ ap placed read

  pub context_own : (s : Start) → y ≡ Ok s → s.context ≡ context_of s.context.header
  context_own s e = start_context Kind.WideHeader tail s (placed_ok (start_of Kind.WideHeader tail) s (sym is_placed ∙ e))

  pub first_pass : (bytes : List ℕ) (z : Result (Start × ℕ) types.Refused) → ValidatedFrom (λ k r. r ≡ k) y bytes z
      → z ≡ validated_from (start_of Kind.WideHeader tail) bytes
  first_pass bytes z v =
      of_tail (start_of Kind.WideHeader tail) bytes z
      (subst (λ (r : Result Start types.Refused). ValidatedFrom (λ k r. r ≡ k) r bytes z) is_placed v)
