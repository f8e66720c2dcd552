-- What a tail in range gives the step: n has room in a mask, and every count is below the limit. Assumes nothing.
use mathlib.Core.Path.{◌≡◌, refl}
use mathlib.Core.Bool.{Bool, true, false, cond}
use Prim.Native.Nat.{suc, ℕ, ◌≤◌, ◌<◌}
use native.Mathlib.Omega.{arith}
use native.Mathlib.Decide.{dec_lt}
use lib.Dec.{eqb, leb, ltb}
use lib.ListN.{length, get_or, get_or-eq_default}
use borrow.Author.Tests.{ltb-true, eqb-true}
use Rattle.number.proofs.Laws.{and_left, and_right}
use Rattle.store.specs.Log.{places}
use Rattle.schedule.specs.Record.{header_in_range}
use Rattle.schedule.proofs.Laws.{header_size}
use Rattle.tail.specs.Tail.{zeros, header_of, messages_in_range, fields_zero, parties_in_range, count_in_range, calls_in_range, tail_in_range}
use Rattle.tail.specs.Types.{Kind, ParticipantFields, Tail}
use Rattle.number.proofs.Table.{every_at}

pub n_in_range : (k : Kind) (limit : ℕ) (t : Tail) → tail_in_range k limit t ≡ true → (1 ≤ t.n) × (t.n ≤ places)
n_in_range k limit t q = header_size (header_of k t) (and_left (header_in_range (header_of k t)) _ q)

pub parties_in_range_lem : (k : Kind) (limit : ℕ) (t : Tail) → tail_in_range k limit t ≡ true → parties_in_range t ≡ true
parties_in_range_lem k limit t q = and_left (parties_in_range t) _ (and_right (messages_in_range t) _ (and_right (header_in_range (header_of k t)) _ q))

pub calls_in_range_lem : (k : Kind) (limit : ℕ) (t : Tail) → tail_in_range k limit t ≡ true → calls_in_range limit t ≡ true
calls_in_range_lem k limit t q = and_right (parties_in_range t) _ (and_right (messages_in_range t) _ (and_right (header_in_range (header_of k t)) _ q))

pub zero_fields : (f : ParticipantFields) → fields_zero f ≡ true → f ≡ zeros
zero_fields f q =
    let a : f.state ≡ 0 = eqb-true f.state 0 (and_left _ _ q) in
    let r = and_right (eqb f.state 0) _ q in
    let b : f.heard ≡ 0 = eqb-true f.heard 0 (and_left _ _ r) in
    let t = and_right (eqb f.heard 0) _ r in
    let c : f.first ≡ 0 = eqb-true f.first 0 (and_left _ _ t) in
    let d : f.last ≡ 0 = eqb-true f.last 0 (and_right (eqb f.first 0) _ t) in
    rw (a, b, c, d) refl

count_below : (limit : ℕ) → 0 < limit → (b : Bool) (k : ℕ) → cond b (ltb k limit) (eqb k 0) ≡ true → k < limit
count_below limit some true k q = ltb-true k limit q
count_below limit some false k q = omega (arith, eqb-true k 0 q)

-- every count is below the limit
pub calls_below : (k : Kind) (limit : ℕ) (t : Tail) → 0 < limit → length t.calls ≡ suc places → tail_in_range k limit t ≡ true → (p : ℕ) → get_or t.calls p 0 < limit
calls_below k limit t some l q p = go (dec_lt p (suc places))
  where
    go : Dec (p < suc places) → get_or t.calls p 0 < limit
    go (yes h) =
        count_below limit some (leb p t.n) (get_or t.calls p 0)
        (every_at (λ j. count_in_range limit t.n j (get_or t.calls j 0)) (suc places) p h (calls_in_range_lem k limit t q))
    go (no ne) = rw (get_or-eq_default t.calls 0 {n = p} (omega arith)) (omega arith)
