-- Numbers of several bytes put one after the other, and the parts of a table. Assumes nothing.
use mathlib.Core.Path.{◌≡◌, sym, ap, ◌∙◌}
use mathlib.Core.List.{List}
use Prim.Native.Nat.{ℕ, ◌+◌, ◌*◌, ◌≤◌, ◌<◌}
use native.Mathlib.Omega.{arith}
use lib.ListN.{length, get_or, take}
use lib.Seq.{sets, get_or-take, length-take-le}
use Rattle.number.specs.Low.{low_bytes}
use Rattle.number.specs.Table.{tabulate}
use Rattle.number.proofs.LowBytes.{low_length}
use Rattle.number.proofs.Table.{length_tabulate, get_d_tabulate}
use Rattle.store.specs.Log.{places}
use Rattle.rules.specs.State.{types}
use Rattle.text.specs.Put.{Put, each}
use Rattle.text.proofs.Putting.{Putting, put_room, put_next, each_length}
use Rattle.form.specs.Form.{field_bytes, participant_length}
use Rattle.form.proofs.Lengths.{fields_size}
use Rattle.layout.specs.Types.{ParticipantFields, Form}

pub put_number : {before after : List ℕ} {place end : ℕ} (w x : ℕ)
    → (end ≡ place + w) × (after ≡ sets before place (low_bytes w x)) → Put before place (low_bytes w x) end after
put_number {before} {after} {place} {end} w x p = record { ends = p.0 ∙ ap (λ n. place + n) (sym (low_length w x)); leaves = p.1 }

-- element by element, each of m bytes

module _ {A : Type 0} {f : A → List ℕ} {xs : List A} {out₀ out : List ℕ} {place at i : ℕ} (g : Putting f xs out₀ place out at i) (d : A) where
  pub put_turn : {x : A} {out' : List ℕ} {at' : ℕ} → i < length xs → get_or xs i d ≡ x → Put out at (f x) at' out'
      → Putting f xs out₀ place out' at' (i + 1)
  put_turn some e p = rw (p.ends, p.leaves, ← e) (put_next f xs out₀ place out at i g d some)

  pub put_here : (m k : ℕ) → ((x : A) → length (f x) ≡ m) → length xs ≡ k → i < k → place + k * m ≤ length out₀
      → at + m ≤ length out
  put_here m k l q some room =
      let a = put_room f xs out₀ place out at i g d (omega (arith, q)) in
      let c : length xs * m ≡ k * m = ap (λ n. n * m) q in
      omega (arith, a, l (get_or xs i d), each_length f m l xs, c, room, g.same)

-- the first part of a table
module _ {A : Type 0} (k m : ℕ) (f : ℕ → A) (h : k ≤ m) where
  pub taken : (i : ℕ) (d : A) → i < k → get_or (take k (tabulate m f)) i d ≡ f i
  taken i d g = get_or-take k (tabulate m f) i d g ∙ get_d_tabulate m f i d (omega arith)

  pub taken_length : length (take k (tabulate m f)) ≡ k
  taken_length = length-take-le k (tabulate m f) (omega (arith, length_tabulate m f))

pub messages_length : (w : ℕ) (f : ℕ → ℕ) → length (each (low_bytes w) (tabulate types f)) ≡ types * w
messages_length w f = each_length (low_bytes w) w (low_length w) (tabulate types f) ∙ ap (λ n. n * w) (length_tabulate types f)

pub parties_length : (f : Form) → f.places ≤ places → (g : ℕ → ParticipantFields)
    → length (each (field_bytes f.width) (take f.places (tabulate places g))) ≡ f.places * participant_length f.width
parties_length f h g =
    each_length (field_bytes f.width) (participant_length f.width) (fields_size f.width) (take f.places (tabulate places g))
    ∙ ap (λ n. n * participant_length f.width) (taken_length f.places places g h)
