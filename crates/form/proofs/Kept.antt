-- A tail is read back from its bytes, in any form that it fits: the statement TailKept. Assumes nothing.
use mathlib.Core.Path.{◌≡◌, refl, sym, ap, ◌∙◌}
use mathlib.Core.Bool.{Bool, true, false, cond}
use mathlib.Core.List.{List, [], ◌∷◌, ◌++◌, append_assoc, append-nil}
use Prim.Native.Nat.{ℕ, zero, suc, ◌+◌, ◌*◌, ◌^◌, ◌<◌}
use native.Mathlib.Omega.{arith}
use lib.Dec.{ltb}
use lib.ListN.{length, get_or, take, drop}
use lib.Seq.{drop_at, drop-drop, get_or-take, length-take-le}
use borrow.Author.Tests.{ltb-true, ltb-false}
use Rattle.number.proofs.Table.{tabulate_list}
use Rattle.number.specs.Low.{low_bytes, low_number}
use Rattle.number.proofs.LowBytes.{low_length, low_back}
use Rattle.text.specs.Put.{each}
use Rattle.store.specs.Log.{places}
use Rattle.rules.specs.State.{types}
use Rattle.tail.specs.Tail.{zeros}
use Rattle.form.specs.Types.{ParticipantFields, Tail, Form}
use Rattle.form.specs.Form.{number_width, count_width, field_bytes, tail_bytes, votes_at, state_at, heard_at, messages_at, participants_at, own_heard_at, first_at, last_at, participant_length, counts_at, number_at, message_at, fields_at, participant_at, count_at, tail_at}
use Rattle.form.specs.Kept.{FieldsFit, FitsForm, TailKept, NarrowTail}
use Rattle.form.proofs.Lengths.{fields_size}

-- At a place of some bytes: what is read there, and what comes next

-- bytes that stand at a place, and what follows them
next : (bytes : List ℕ) (place n : ℕ) (xs rest : List ℕ) → drop place bytes ≡ xs ++ rest → length xs ≡ n → drop (place + n) bytes ≡ rest
next bytes place n xs rest e l = sym (drop-drop n place bytes) ∙ ap (drop n) e ∙ drop_at xs rest n l

-- the same from a place that is counted from another
further : (bytes : List ℕ) (place from n : ℕ) (xs rest : List ℕ) → drop (place + from) bytes ≡ xs ++ rest → length xs ≡ n → drop (place + (from + n)) bytes ≡ rest
further bytes place from n xs rest e l = let a : place + (from + n) ≡ place + from + n = omega arith in ap (λ k. drop k bytes) a ∙ next bytes (place + from) n xs rest e l

number_here : (bytes : List ℕ) (place w x : ℕ) (rest : List ℕ) → drop place bytes ≡ low_bytes w x ++ rest → x < 256 ^ w → number_at w place bytes ≡ x
number_here bytes place w x rest e h = ap (low_number w) e ∙ low_back w x rest h

-- element i of a list of equal parts
each_here : {A : Type 0} (g : A → List ℕ) (n : ℕ) → ((x : A) → length (g x) ≡ n) → (d : A) (xs : List A) (rest : List ℕ) (bytes : List ℕ) (place : ℕ)
    → drop place bytes ≡ each g xs ++ rest → (i : ℕ) → i < length xs
    → drop (place + i * n) bytes ≡ g (get_or xs i d) ++ (each g (drop (suc i) xs) ++ rest)
unfolding each
each_here g n l d [] rest bytes place e i h = absurd (omega arith)
each_here g n l d (x ∷ xs) rest bytes place e zero h =
    let z : place + zero * n ≡ place = omega arith in
    ap (λ k. drop k bytes) z ∙ e ∙ append_assoc (g x) (each g xs) rest
each_here g n l d (x ∷ xs) rest bytes place e (suc i) h =
    let after : drop (place + n) bytes ≡ each g xs ++ rest = next bytes place n (g x) (each g xs ++ rest) (e ∙ append_assoc (g x) (each g xs) rest) (l x) in
    let z : place + suc i * n ≡ place + n + i * n = omega arith in
    ap (λ k. drop k bytes) z ∙ each_here g n l d xs rest bytes (place + n) after i (omega arith)

each_size : {A : Type 0} (g : A → List ℕ) (n : ℕ) → ((x : A) → length (g x) ≡ n) → (xs : List A) (rest : List ℕ) (bytes : List ℕ) (place : ℕ)
    → drop place bytes ≡ each g xs ++ rest → drop (place + length xs * n) bytes ≡ rest
unfolding each
each_size g n l [] rest bytes place e = let z : place + 0 * n ≡ place = omega arith in ap (λ k. drop k bytes) z ∙ e
each_size g n l (x ∷ xs) rest bytes place e =
    let after : drop (place + n) bytes ≡ each g xs ++ rest = next bytes place n (g x) (each g xs ++ rest) (e ∙ append_assoc (g x) (each g xs) rest) (l x) in
    let z : place + suc (length xs) * n ≡ place + n + length xs * n = omega arith in
    ap (λ k. drop k bytes) z ∙ each_size g n l xs rest bytes (place + n) after

fields_here : (w : ℕ) (bytes : List ℕ) (place : ℕ) (p : ParticipantFields) (rest : List ℕ) → drop place bytes ≡ field_bytes w p ++ rest → FieldsFit w p → fields_at w place bytes ≡ p
fields_here w bytes place p rest e g =
    let k : ℕ = number_width in
    let a : List ℕ = low_bytes k p.first ++ low_bytes k p.last in
    let e₀ : drop place bytes ≡ low_bytes k p.state ++ (low_bytes w p.heard ++ (a ++ rest)) = e ∙ ap (λ l. low_bytes k p.state ++ l) (append_assoc (low_bytes w p.heard) a rest) in
    let e₁ = next bytes place k (low_bytes k p.state) (low_bytes w p.heard ++ (a ++ rest)) e₀ refl in
    let e₂ = further bytes place own_heard_at w (low_bytes w p.heard) (a ++ rest) e₁ (low_length w p.heard) in
    let e₃ = further bytes place (first_at w) k (low_bytes k p.first) (low_bytes k p.last ++ rest) e₂ refl in
    let s = number_here bytes place k p.state (low_bytes w p.heard ++ (a ++ rest)) e₀ g.state in
    let h = number_here bytes (place + own_heard_at) w p.heard (a ++ rest) e₁ g.heard in
    let x = number_here bytes (place + first_at w) k p.first (low_bytes k p.last ++ rest) e₂ g.first in
    let y = number_here bytes (place + last_at w) k p.last rest e₃ g.last in
    fields_same s h x y
  where
    fields_same : {s h f l s' h' f' l' : ℕ} → s ≡ s' → h ≡ h' → f ≡ f' → l ≡ l'
        → ◌≡◌ {A = ParticipantFields} (record { state = s; heard = h; first = f; last = l }) (record { state = s'; heard = h'; first = f'; last = l' })
    fields_same p q r t = rw (p, q, r, t) refl

module _ (f : Form) (t : Tail) (g : FitsForm f t) where
  abbrev w : ℕ
  w = f.width

  abbrev bytes : List ℕ
  bytes = tail_bytes f t

  abbrev ps : List ParticipantFields
  ps = take f.places t.participants

  abbrev cs : List ℕ
  cs = take (suc f.places) t.calls

  abbrev r₅ : List ℕ
  r₅ = each (low_bytes count_width) cs

  abbrev r₄ : List ℕ
  r₄ = each (field_bytes w) ps ++ r₅

  abbrev r₃ : List ℕ
  r₃ = each (low_bytes w) t.messages ++ r₄

  abbrev r₂ : List ℕ
  r₂ = low_bytes w t.heard ++ r₃

  abbrev r₁ : List ℕ
  r₁ = low_bytes number_width t.state ++ r₂

  abbrev r₀ : List ℕ
  r₀ = low_bytes w t.votes ++ r₁

  -- the first four numbers one by one
  whole : bytes ≡ low_bytes number_width t.n ++ r₀
  whole =
      let c : List ℕ = low_bytes number_width t.state ++ low_bytes w t.heard in
      append_assoc (low_bytes number_width t.n) (low_bytes w t.votes ++ c) r₃
      ∙ ap (λ l. low_bytes number_width t.n ++ l) (append_assoc (low_bytes w t.votes) c r₃ ∙ ap (λ l. low_bytes w t.votes ++ l) (append_assoc (low_bytes number_width t.state) (low_bytes w t.heard) r₃))

  e₁ : drop votes_at bytes ≡ r₀
  e₁ = ap (drop votes_at) whole

  e₂ : drop (state_at w) bytes ≡ r₁
  e₂ = next bytes votes_at w (low_bytes w t.votes) r₁ e₁ (low_length w t.votes)

  e₃ : drop (heard_at w) bytes ≡ r₂
  e₃ = next bytes (state_at w) number_width (low_bytes number_width t.state) r₂ e₂ refl

  e₄ : drop (messages_at w) bytes ≡ r₃
  e₄ = next bytes (heard_at w) w (low_bytes w t.heard) r₃ e₃ (low_length w t.heard)

  e₅ : drop (participants_at w) bytes ≡ r₄
  e₅ = ap (λ k. drop (messages_at w + k * w) bytes) (sym g.has_fields.messages) ∙ each_size (low_bytes w) w (low_length w) t.messages r₄ bytes (messages_at w) e₄

  ps_long : length ps ≡ f.places
  ps_long = length-take-le f.places t.participants (omega (arith, g.within, g.has_fields.participants))

  cs_long : length cs ≡ suc f.places
  cs_long = length-take-le (suc f.places) t.calls (omega (arith, g.within, g.has_fields.calls))

  e₆ : drop (counts_at f) bytes ≡ r₅
  e₆ = ap (λ k. drop (participants_at w + k * participant_length w) bytes) (sym ps_long) ∙ each_size (field_bytes w) (participant_length w) (fields_size w) ps r₅ bytes (participants_at w) e₅

  message_here : (k : ℕ) → k < types → message_at w bytes k ≡ get_or t.messages k 0
  message_here k h =
      number_here bytes (messages_at w + k * w) w (get_or t.messages k 0) (each (low_bytes w) (drop (suc k) t.messages) ++ r₄)
      (each_here (low_bytes w) w (low_length w) 0 t.messages r₄ bytes (messages_at w) e₄ k (omega (arith, g.has_fields.messages))) (g.messages k h)

  site_here : (i : ℕ) → participant_at f bytes i ≡ get_or t.participants i zeros
  site_here i = go (ltb i f.places) refl
    where
      go : (b : Bool) → ltb i f.places ≡ b → cond b (fields_at w (participants_at w + i * participant_length w) bytes) zeros ≡ get_or t.participants i zeros
      go true q =
          let h : i < f.places = ltb-true i f.places q in
          let same : get_or ps i zeros ≡ get_or t.participants i zeros = get_or-take f.places t.participants i zeros h in
          fields_here w bytes (participants_at w + i * participant_length w) (get_or t.participants i zeros) (each (field_bytes w) (drop (suc i) ps) ++ r₅)
          (each_here (field_bytes w) (participant_length w) (fields_size w) zeros ps r₅ bytes (participants_at w) e₅ i (omega (arith, ps_long)) ∙ ap (λ (p : ParticipantFields). field_bytes w p ++ (each (field_bytes w) (drop (suc i) ps) ++ r₅)) same)
          (g.participants i h)
      go false q = sym (g.participants_beyond i (ltb-false i f.places q))

  count_here : (p : ℕ) → count_at f bytes p ≡ get_or t.calls p 0
  count_here p = go (ltb p (suc f.places)) refl
    where
      go : (b : Bool) → ltb p (suc f.places) ≡ b → cond b (number_at count_width (counts_at f + p * count_width) bytes) 0 ≡ get_or t.calls p 0
      go true q =
          let h : p < suc f.places = ltb-true p (suc f.places) q in
          let same : get_or cs p 0 ≡ get_or t.calls p 0 = get_or-take (suc f.places) t.calls p 0 h in
          number_here bytes (counts_at f + p * count_width) count_width (get_or t.calls p 0) (each (low_bytes count_width) (drop (suc p) cs) ++ [])
          (each_here (low_bytes count_width) count_width (low_length count_width) 0 cs [] bytes (counts_at f) (e₆ ∙ sym (append-nil r₅)) p (omega (arith, cs_long)) ∙ ap (λ k. low_bytes count_width k ++ (each (low_bytes count_width) (drop (suc p) cs) ++ [])) same)
          (g.calls p (omega (arith, h)))
      go false q = sym (g.calls_beyond p (omega (arith, ltb-false p (suc f.places) q)))

  -- nothing is lost: the tail is read back from its bytes
  kept : tail_at f bytes ≡ t
  kept =
      let a = number_here bytes 0 number_width t.n r₀ whole g.n in
      let b = number_here bytes votes_at w t.votes r₁ e₁ g.votes in
      let c = number_here bytes (state_at w) number_width t.state r₂ e₂ g.state in
      let d = number_here bytes (heard_at w) w t.heard r₃ e₃ g.heard in
      let m = tabulate_list types (message_at w bytes) t.messages 0 g.has_fields.messages message_here in
      let s = tabulate_list places (participant_at f bytes) t.participants zeros g.has_fields.participants (λ i _. site_here i) in
      let k = tabulate_list (suc places) (count_at f bytes) t.calls 0 g.has_fields.calls (λ p _. count_here p) in
      rw (a, b, c, d, m, s, k) refl

pub tail_kept : TailKept
tail_kept = kept

pub narrow_tail : NarrowTail
narrow_tail = (refl, refl)
