-- `schedule::reader::read_record` meets its contract: the mask that it reads with is that of the header's n. Assumes nothing.
use mathlib.Core.Path.{◌≡◌, refl, ap, ◌∙◌}
use native.Mathlib.Omega.{arith}
use Rattle.std.proofs.lemmas.Grind.{common_steps}
use Rattle.std.specs.Prelude.{Result, Ok, Err}
use Rattle.schedule.specs.Types.{Context, Refusal}
use Rattle.schedule.specs.Reader.{Read, refused, read_hands}
use Rattle.schedule.specs.Context.{first_read, read_with}
use Rattle.schedule.proofs.WithMask.{read_same, first_read_lem}
use Rattle.schedule.proofs.reader.read_record.Goals as goal

-- a refusal of the first record is handed on with its place

placed : (c : goal.After-from_residual) (k : Refusal) → c.read_header.result ≡ Err k → ◌≡◌ {A = Read} c.from_residual.result (refused k)
placed c k e = let was = c.in_err-context-in-None.was in grind (arith, common_steps)

unread : (c : goal.After-from_residual) (v : Context) → c.read_header.result ≡ Ok v → ⊥
unread c v e = let was = c.in_err-context-in-None.was in grind (arith, common_steps)

pub returns-in_err-context-in-None : goal.returns-in_err-context-in-None
returns-in_err-context-in-None c =
    let same = go c.read_header.result refl ∙ ap first_read c.read_header.ensures ∙ first_read_lem c.args.bytes.now in
    rw c.in-None.is (same, ap read_hands same)
  where
    go : (x : Result Context Refusal) → c.read_header.result ≡ x → ◌≡◌ {A = Read} c.from_residual.result (first_read x)
    go (Ok v) e = absurd (unread c v e)
    go (Err k) e = placed c k e

pub returns-in_ok-context-in-None : goal.returns-in_ok-context-in-None
returns-in_ok-context-in-None c = rw c.in-None.is (let e = first_read_lem c.args.bytes.now in grind (arith, common_steps))

pub returns-in-Some : goal.returns-in-Some
returns-in-Some c =
    let bytes = c.args.bytes.now in
    let same = c.read_step.ensures ∙ ap (read_with bytes) c.context.ensures ∙ read_same bytes c.in-Some.h in
    rw c.in-Some.is (same, ap read_hands same)
