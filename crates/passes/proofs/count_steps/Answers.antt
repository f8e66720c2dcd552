-- `passes::count_steps` meets its contract: what is left to count, beside what was counted, is the whole. Assumes nothing.
use mathlib.Core.Path.{◌≡◌, sym, ap, ap₂, ◌∙◌}
use Prim.Native.Nat.{ℕ, ◌+◌, ◌-◌}
use native.Mathlib.Omega.{arith}
use native.Mathlib.Nat.{add-zero}
use mathlib.Core.List.{List}
use lib.ListN.{length, take, drop}
use Rattle.std.specs.Prelude.{Some, Ok}
use Rattle.schedule.specs.Record.{record_step}
use Rattle.schedule.specs.Reader.{Read, reader_answers}
use Rattle.schedule.specs.Context.{context_of, read_with}
use Rattle.schedule.proofs.WithMask.{read_same}
use Rattle.passes.specs.Types.{Context}
use Rattle.passes.specs.Pass.{reading_from, validated_after}
use Rattle.passes.proofs.Reading.{First, tail_part, read_first, read_refused, none_left, count_more}
use Rattle.passes.proofs.count_steps.Goals as goal

-- what is read is what is left of the schedule, with the mask of the header's n
read_here : (schedule : List ℕ) (context : Context) (at : ℕ) (x : Read) → context ≡ context_of context.header
    → x ≡ read_with (take (length schedule - at) (drop at schedule)) context → reader_answers (drop at schedule) (Some context.header) ≡ x
read_here schedule context at x same e =
    sym (e ∙ ap₂ read_with (tail_part schedule at) same ∙ read_same (drop at schedule) context.header)

pub returns-in_default : goal.returns-in_default
returns-in_default c =
    let s = c.args.schedule.now in
    let k = c.unwrap_err.result in
    let here = read_here s c.args.context c.loop-at.at _ c.requires.2 c.read_step-found.ensures in
    sym (ap (validated_after c.loop-at.steps) (read_refused s c.args.context.header c.loop-at.at c.loop-at-test.true k (here ∙ c.unwrap_err.ensures)))
    ∙ c.loop-at.invariant.2

-- the record that was read
first : (c : goal.In-Ok) → First c.args.schedule.now c.args.context.header c.loop-at.at c.in-Ok.field-0-0 c.in-Ok.length
first c =
    let s = c.args.schedule.now in
    read_first s c.args.context.header c.loop-at.at c.loop-at-test.true c.in-Ok.field-0-0 c.in-Ok.length
    (read_here s c.args.context c.loop-at.at _ c.requires.2 c.read_step-found.ensures ∙ c.in-Ok.is)

pub overflow_add-at : goal.overflow_add-at
overflow_add-at c = let x = first c in omega (arith, x.within, c.requires.1)

pub loop-at-smaller : goal.loop-at-smaller
loop-at-smaller c = let x = first c in omega (arith, x.some, x.within)

pub loop-at-preserved : goal.loop-at-preserved
loop-at-preserved c =
    let x = first c in
    let r = c.in-Ok.field-0-0 in
    let rest = reading_from c.args.schedule.now c.args.context.header (c.loop-at.at + c.in-Ok.length) in (
      x.within,
      omega (arith, x.some),
      sym (count_more c.loop-at.steps (record_step r) rest) ∙ ap (validated_after c.loop-at.steps) (sym x.first) ∙ c.loop-at.invariant.2,
    )

pub returns : goal.returns
returns c =
    ap₂ (λ (d : Context) (n : ℕ). Ok (d, n)) c.requires.2 (sym (add-zero c.loop-at.steps))
    ∙ sym (ap (validated_after c.loop-at.steps) (none_left c.args.schedule.now c.args.context.header c.loop-at.at c.loop-at-test.false))
    ∙ c.loop-at.invariant.2
