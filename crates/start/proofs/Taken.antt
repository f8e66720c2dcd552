-- What it says of a tail that nothing refuses it, and the release that it holds. Assumes nothing.
use mathlib.Core.Path.{◌≡◌, refl, sym, ap}
use mathlib.Core.Bool.{Bool, true, false, cond}
use mathlib.Core.List.{List}
use Prim.Native.Nat.{ℕ, suc, ◌≤◌, ◌<◌}
use native.Mathlib.Omega.{arith}
use lib.Dec.{eqb}
use lib.ListN.{length, get_or}
use borrow.Author.Tests.{eqb-true, eq-eqb}
use Rattle.std.specs.Prelude.{Some, None}
use Rattle.std.proofs.lemmas.Option.{none-some, same_Some}
use Rattle.number.specs.Refusal.{refusal_number}
use Rattle.number.proofs.Table.{length_tabulate}
use Rattle.store.specs.Log.{places}
use Rattle.rules.specs.State.{types}
use Rattle.state.specs.Fields.{HasPlaces}
use Rattle.tail.specs.Tail.{tail_of, site_of, fields_at, release_of, tail_in_range}
use Rattle.tail.proofs.TailRange.{calls_below}
use Rattle.tail.proofs.Follows.{tail_numbers}
use Rattle.form.specs.Form.{form_of, tail_length, message_at, participant_at, count_at, tail_at}
use Rattle.form.specs.Kept.{HasFields}
use Rattle.start.specs.Types.{Kind, Release, Tail, Refusal}
use Rattle.start.specs.Start.{most_calls, tail_refusal}

module _ (k : Kind) (tail : List ℕ) where
  abbrev fields_there : Tail
  fields_there = tail_at (form_of k) tail

  abbrev release_there : Release
  release_there = release_of fields_there

  pub taken : length tail ≡ tail_length (form_of k) → tail_in_range k (suc most_calls) fields_there ≡ true → tail_refusal k tail ≡ None
  taken long ranged = simp (eq-eqb (length tail) (tail_length (form_of k)) long, ranged)

  -- what refuses it has a number of at most 10
  pub refusal_most : (x : Refusal) → tail_refusal k tail ≡ Some x → refusal_number x ≤ refusal_number Refusal.WrongLength
  refusal_most x e = go (eqb (length tail) (tail_length (form_of k))) (tail_in_range k (suc most_calls) fields_there) e
    where
      go : (a b : Bool) → cond a (cond b None (Some Refusal.OutOfRange)) (Some Refusal.WrongLength) ≡ Some x → refusal_number x ≤ refusal_number Refusal.WrongLength
      go true true e = absurd (none-some x e)
      go true false e = omega (arith, ap refusal_number (same_Some Refusal.OutOfRange x e))
      go false b e = omega (arith, ap refusal_number (same_Some Refusal.WrongLength x e))

  -- the fields have their lengths, whatever the bytes are

  pub fields_have : HasFields fields_there
  fields_have =
      record {
        messages = length_tabulate types (message_at (form_of k).width tail);
        participants = length_tabulate places (participant_at (form_of k) tail);
        calls = length_tabulate (suc places) (count_at (form_of k) tail);
      }

  pub start_places : HasPlaces release_there
  start_places = record { sites = length_tabulate places (λ i. site_of (fields_at fields_there i)); messages = fields_have.messages; calls = fields_have.calls }

  module _ (e : tail_refusal k tail ≡ None) where
    both : (length tail ≡ tail_length (form_of k)) × (tail_in_range k (suc most_calls) fields_there ≡ true)
    both = go (eqb (length tail) (tail_length (form_of k))) refl (tail_in_range k (suc most_calls) fields_there) refl e
      where
        go : (a : Bool) → eqb (length tail) (tail_length (form_of k)) ≡ a → (b : Bool) → tail_in_range k (suc most_calls) fields_there ≡ b
            → cond a (cond b None (Some Refusal.OutOfRange)) (Some Refusal.WrongLength) ≡ None → (length tail ≡ tail_length (form_of k)) × (tail_in_range k (suc most_calls) fields_there ≡ true)
        go true p true q e = (eqb-true (length tail) (tail_length (form_of k)) p, q)
        go true p false q e = absurd (none-some Refusal.OutOfRange (sym e))
        go false p b q e = absurd (none-some Refusal.WrongLength (sym e))

    pub long : length tail ≡ tail_length (form_of k)
    long = both.0

    pub ranged : tail_in_range k (suc most_calls) fields_there ≡ true
    ranged = both.1

    -- no count is over 54,000
    pub few_calls : (p : ℕ) → get_or release_there.calls p 0 < suc most_calls
    few_calls p = calls_below k (suc most_calls) fields_there (omega arith) fields_have.calls ranged p

    -- the release has just these fields
    pub fields_back : tail_of release_there ≡ fields_there
    fields_back = tail_numbers.encoded k (suc most_calls) fields_there fields_have.participants ranged
