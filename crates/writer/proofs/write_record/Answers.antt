-- `writer::write_record` meets its contract: what it writes is of the kind with that number. Assumes nothing.
use mathlib.Core.Path.{◌≡◌, refl, sym, ap, ◌∙◌}
use mathlib.Core.Bool.{Bool, true, false, cond}
use Prim.Native.Nat.{ℕ}
use native.Mathlib.Omega.{arith}
use Rattle.std.proofs.lemmas.Grind.{common_steps}
use Rattle.std.specs.Prelude.{Result, Ok, Err}
use Rattle.kind.specs.Kind.{kind_of, is_kind, kind_with}
use Rattle.writer.specs.Types.{Kind, Refusal}
use Rattle.writer.specs.Writer.{written_hands}
use Rattle.writer.proofs.write_record.Goals as goal

known : (k : ℕ) (x : Kind) → kind_with k ≡ Ok x → (is_kind k ≡ true) × (kind_of k ≡ x)
known k x e = go (is_kind k) refl e
  where
    go : (b : Bool) → is_kind k ≡ b → ◌≡◌ {A = Result Kind Refusal} (cond b (Ok (kind_of k)) (Err Refusal.UnknownKind)) (Ok x)
        → (is_kind k ≡ true) × (kind_of k ≡ x)
    go true q e = (q, cc)
    go false q e = absurd (cc (e))

pub returns : goal.returns
returns c =
    let found : c.try_from.result ≡ Ok c.in_ok-kind.kind = let was = c.in_ok-kind.was in grind (arith, common_steps) in
    let k = known c.args.kind c.in_ok-kind.kind (sym c.try_from.ensures ∙ found) in
    rw (k.0, k.1) (c.write_kind.ensures.0, ap written_hands c.write_kind.ensures.0, c.write_kind.ensures.1)
