-- `sheet::Prefix::with_step` meets its contract: the bytes that are added follow those so far. Assumes nothing.
use mathlib.Core.Path.{ap₂}
use Rattle.std.proofs.Common.{◌∙◌, arith, List, ℕ, take}
use Rattle.sheet.proofs.Bytes.{text_more}
use Rattle.sheet.proofs.Prefix.with_step.Goals as goal

pub returns : goal.returns
returns c =
    let p = c.args.self in
    let put = c.put-len.ensures in
    record {
      size = omega arith;
      long = put.ends;
      text = ap₂ (λ (j : ℕ) (b : List ℕ). take j b) put.ends put.leaves ∙ text_more p.bytes p.len c.args.added.now (omega arith);
    }
