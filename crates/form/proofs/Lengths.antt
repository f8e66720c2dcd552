-- How long a tail and its parts are, in any form. Assumes nothing.
use mathlib.Core.Path.{◌≡◌, ap, ◌∙◌}
use mathlib.Core.List.{List, ◌++◌}
use Prim.Native.Nat.{ℕ, zero, suc, ◌+◌, ◌*◌, ◌≤◌, ◌<◌}
use native.Mathlib.Omega.{arith}
use lib.ListN.{length, take, length-append}
use lib.Seq.{length-take-le}
use Rattle.number.specs.Low.{low_bytes}
use Rattle.number.proofs.LowBytes.{low_length}
use Rattle.text.specs.Put.{each}
use Rattle.text.proofs.Putting.{each_length}
use Rattle.store.specs.Log.{places}
use Rattle.rules.specs.State.{types}
use Rattle.form.specs.Types.{ParticipantFields, Tail, Form}
use Rattle.form.specs.Form.{FormFits, number_width, count_width, field_bytes, head_bytes, tail_bytes, messages_at, participants_at, participant_length, tail_length}
use Rattle.form.specs.Kept.{HasFields}

-- element k of m parts that have w bytes each
pub slot : (k m w : ℕ) → k < m → k * w + w ≤ m * w
slot k zero w h = absurd (omega arith)
slot zero (suc m) w h = omega arith
slot (suc k) (suc m) w h = omega (arith, slot k m w (omega arith))

-- lengths

pub fields_size : (w : ℕ) (p : ParticipantFields) → length (field_bytes w p) ≡ participant_length w
fields_size w p =
    let e = length-append (low_bytes w p.heard) (low_bytes number_width p.first ++ low_bytes number_width p.last) in
    omega (arith, e, low_length w p.heard)

pub head_length : (w n votes state heard : ℕ) → length (head_bytes w n votes state heard) ≡ messages_at w
head_length w n votes state heard =
    let e = length-append (low_bytes w votes) (low_bytes number_width state ++ low_bytes w heard) in
    omega (arith, e, low_length w votes, low_length w heard)

pub tail_size_lem : (f : Form) (t : Tail) → f.places ≤ places → HasFields t → length (tail_bytes f t) ≡ tail_length f
tail_size_lem f t h has =
    let w : ℕ = f.width in
    let a : List ℕ = head_bytes w t.n t.votes t.state t.heard in
    let b : List ℕ = each (low_bytes w) t.messages in
    let c : List ℕ = each (field_bytes f.width) (take f.places t.participants) in
    let d : List ℕ = each (low_bytes count_width) (take (suc f.places) t.calls) in
    let lb : length b ≡ types * w = each_length (low_bytes w) w (low_length w) t.messages ∙ ap (λ n. n * w) has.messages in
    let lc : length c ≡ f.places * participant_length w = each_length (field_bytes w) (participant_length w) (fields_size w) (take f.places t.participants) ∙ ap (λ n. n * participant_length w) (length-take-le f.places t.participants (omega (arith, has.participants))) in
    let ld : length d ≡ suc f.places * count_width = each_length (low_bytes count_width) count_width (low_length count_width) (take (suc f.places) t.calls) ∙ ap (λ n. n * count_width) (length-take-le (suc f.places) t.calls (omega (arith, has.calls))) in
    omega (arith, head_length w t.n t.votes t.state t.heard, lb, lc, ld, length-append a (b ++ (c ++ d)), length-append b (c ++ d), length-append c d)

-- products of what a form has stay small

pub product : (a b w : ℕ) → a ≤ b → a * w ≤ b * w
product zero b w h = omega arith
product (suc a) zero w h = absurd (omega arith)
product (suc a) (suc b) w h = omega (arith, product a b w (omega arith))

pub parties_small : (f : Form) → FormFits f → f.places * participant_length f.width ≤ 224
parties_small f h = omega (arith, product f.places places (participant_length f.width) h.0, h.1)

pub tail_most : (f : Form) → FormFits f → tail_length f ≤ 320
tail_most f h = omega (arith, parties_small f h, h.0, h.1)

-- a participant of the form stands before the counts
pub party_here : (f : Form) (i : ℕ) → i < f.places → participants_at f.width + i * participant_length f.width + participant_length f.width ≤ tail_length f
party_here f i h = omega (arith, slot i f.places (participant_length f.width) h)
