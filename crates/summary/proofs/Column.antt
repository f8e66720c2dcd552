-- A loop that puts the line of each party from 0 up to the largest n. Assumes nothing.
use mathlib.Core.Path.{◌≡◌, sym, ap, subst, ◌∙◌}
use mathlib.Core.List.{List}
use Prim.Native.Nat.{ℕ, suc, ◌+◌, ◌≤◌, ◌<◌}
use native.Mathlib.Omega.{arith}
use lib.ListN.{length, get_or, take}
use lib.Seq.{sets}
use Rattle.std.proofs.lemmas.List.{get_or-take}
use Rattle.number.proofs.Table.{length_tabulate, get_d_tabulate}
use Rattle.text.specs.Put.{Put}
use Rattle.text.proofs.Putting.{Putting, put_room, put_next, put_all}
use Rattle.summary.specs.Summary.{party_text, party_line, parties, column_text}

pub parties_long : (sites : ℕ) → length (parties sites) ≡ suc sites
parties_long sites = length_tabulate (suc sites) (λ q. q)

-- the calls of party p, as the loop has them
abbrev calls_at : List ℕ → ℕ → ℕ → ℕ
calls_at column sites p = get_or (take (sites + 1) column) p 0

module _ (sites : ℕ) (column text₀ : List ℕ) (place : ℕ) (text : List ℕ) (at p : ℕ) (g : Putting (party_line column) (parties sites) text₀ place text at p) where
  module _ (some : p < suc sites) where
    within : p < length (parties sites)
    within = omega (arith, parties_long sites)

    line_here : party_line column (get_or (parties sites) p 0) ≡ party_text p (calls_at column sites p)
    line_here =
        ap (party_line column) (get_d_tabulate (suc sites) (λ q. q) p 0 some)
        ∙ ap (party_text p) (sym (get_or-take (sites + 1) column p 0 (omega arith)))

    pub party_room : at + length (party_text p (calls_at column sites p)) ≤ place + length (column_text sites column)
    party_room = omega (arith, ap length line_here, put_room (party_line column) (parties sites) text₀ place text at p g 0 within)

    -- one turn puts the line of party p
    pub party_next : (next : ℕ) (after : List ℕ) → Put text at (party_text p (calls_at column sites p)) next after
        → Putting (party_line column) (parties sites) text₀ place after next (p + 1)
    party_next next after put =
        rw (put.ends, put.leaves)
        (subst (λ (l : List ℕ). Putting (party_line column) (parties sites) text₀ place (sets text at l) (at + length l) (p + 1)) line_here
        (put_next (party_line column) (parties sites) text₀ place text at p g 0 within))

  pub party_all : suc sites ≤ p → Put text₀ place (column_text sites column) at text
  party_all done = put_all (party_line column) (parties sites) text₀ place text at p g (omega (arith, parties_long sites))
