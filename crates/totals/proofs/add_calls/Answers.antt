-- `totals::add_calls` meets its contract: entry by entry. Assumes nothing.
use Rattle.std.proofs.Common.{◌≡◌, ap, ◌∙◌, List, ℕ, suc, ◌+◌, get_or, arith}
use Rattle.number.proofs.Table.{up_to, up_to_next, up_to_here, up_to_done}
use Rattle.store.specs.Log.{places}
use Rattle.totals.proofs.add_calls.Goals as goal

-- the entry that comes next
as_it_was : (column calls l : List ℕ) (p : ℕ) → l ≡ up_to p (λ q. get_or column q 0 + get_or calls q 0) column → get_or l p 0 ≡ get_or column p 0
as_it_was column calls l p e = ap (λ k. get_or k p 0) e ∙ up_to_here p (λ q. get_or column q 0 + get_or calls q 0) column 0

pub overflow_add-column : goal.overflow_add-column
overflow_add-column c =
    let p = c.loop-p.p in
    omega (arith, as_it_was c.args.column.now c.args.calls.now c.loop-p.column p c.loop-p.invariant, c.requires.0.few p, c.requires.1.few p)

pub loop-p-preserved : goal.loop-p-preserved
loop-p-preserved c =
    let calls = c.args.calls.now in
    let p = c.loop-p.p in
    up_to_next _ _ _ _ _ c.loop-p.invariant (ap (λ k. k + get_or calls p 0) (as_it_was c.args.column.now calls c.loop-p.column p c.loop-p.invariant))

pub returns : goal.returns
returns c = up_to_done (suc places) _ _ _ _ (omega arith) (omega arith) c.requires.0.parties c.loop-p.invariant
