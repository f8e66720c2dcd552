-- `totals::run_schedule` meets its contract: from the fresh release of its header. Assumes nothing.
use mathlib.Core.Path.{◌∙◌}
use Prim.Native.Nat.{suc}
use native.Mathlib.Omega.{arith}
use lib.ListN.{take, drop}
use Rattle.store.specs.Log.{places}
use Rattle.schedule.specs.Record.{header_record, record_length}
use Rattle.state.specs.Fields.{fields, counts_from, release_in}
use Rattle.passes.specs.Pass.{reading_from, steps_of, fresh_of, Leaves}
use Rattle.passes.proofs.Begun.{begun}
use Rattle.totals.specs.Adding.{Entries}
use Rattle.totals.proofs.Run.{few_steps, run_sum, run_entries, run_added, run_bytes}
use Rattle.totals.proofs.run_schedule.Goals as goal
use Rattle.totals.proofs.run_schedule.Goals.{After-run_steps}

-- what the second pass leaves
left : (c : After-run_steps) →
    let args = c.args in
    let h = args.context.header in
    Leaves (release_in (fields (fresh_of h)) (fresh_of h).store) (steps_of (reading_from args.part.now h (record_length (header_record h))))
    args.bytes.now c.run_steps.result c.run_steps.new.numbers c.run_steps.new.report
left c = rw (c.first_step.ensures, c.fresh-numbers.ensures, c.empty.ensures) at c.run_steps.ensures

-- its numbers end with the counts
entries : (c : After-run_steps) → Entries (take (suc places) (drop counts_from c.run_steps.new.numbers))
entries c = run_entries c.args.part.now c.args.context c.args.steps c.requires.0 (left c)

pub run_steps-requires : goal.run_steps-requires
run_steps-requires c =
    let args = c.args in
    let few = few_steps args.part.now args.context args.steps c.requires.0 in
    rw (c.first_step.ensures, c.fresh-numbers.ensures, c.empty.ensures)
    (begun args.context args.part.now args.steps c.requires.0, omega (arith, few, c.requires.1))

pub add_calls-requires : goal.add_calls-requires
add_calls-requires c = (c.requires.2, entries (goal.at.add_calls-requires c).After-run_steps)

pub sum_of-requires : goal.sum_of-requires
sum_of-requires c = entries (goal.at.sum_of-requires c).After-run_steps

pub returns : goal.returns
returns c =
    let args = c.args in
    let ran = left (goal.at.returns c).After-run_steps in (
      c.sum_of.ensures ∙ run_sum args.part.now args.context args.steps c.requires.0 ran,
      c.add_calls.ensures ∙ run_added args.part.now args.context args.steps c.requires.0 ran args.column.now,
      run_bytes args.part.now args.context args.steps c.requires.0 ran,
    )
