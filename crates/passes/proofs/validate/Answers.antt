-- `passes::validate` meets its contract: too long, a refusal of the header, or the count of the steps after it. Assumes nothing.
use mathlib.Core.Path.{◌≡◌, sym, ◌∙◌}
use native.Mathlib.Omega.{arith}
use Rattle.std.proofs.lemmas.Grind.{common_steps}
use Rattle.std.specs.Prelude.{None, Ok}
use Rattle.schedule.proofs.Records.{read_yielded}
use Rattle.schedule.proofs.WithMask.{begins_with}
use Rattle.passes.proofs.validate.Goals as goal

pub count_steps-requires : goal.count_steps-requires
count_steps-requires c =
    let s = c.args.schedule.now in
    let found : c.read_header.result ≡ Ok c.in_ok-context.context = let was = c.in_ok-context.was in grind (arith, common_steps) in
    let b = begins_with s c.in_ok-context.context (sym c.read_header.ensures ∙ found) in
    (omega (arith, c.first_step.ensures, (read_yielded s None _ _ b.read).fits), c.if-schedule-gt-LONGEST.false, b.context)
