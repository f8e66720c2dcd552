-- `tail::Tail::stepped` meets its contract, case by case. Assumes nothing.
use Rattle.std.proofs.Common.{sym, ap, ◌∙◌}
use Rattle.store.specs.Log.{places}
use Rattle.kind.proofs.Numbers.{more_steps}
use Rattle.rules.specs.Run.{count_limit}
use Rattle.state.specs.Fields.{fields}
use Rattle.tail.specs.Types.{Kind, Release, Report}
use Rattle.tail.specs.Single.{handed}
use Rattle.tail.proofs.SingleCases.{handed_moved}
use Rattle.tail.proofs.TailRange.{n_in_range}
use Rattle.tail.proofs.Stepping.{can_count, same_report}
use Rattle.tail.proofs.Tail.stepped.Goals as goal

pub step-stepped-requires : goal.step-stepped-requires
step-stepped-requires c = (more_steps c.args.self.n places (n_in_range Kind.WideHeader count_limit c.args.self c.requires.0).1 c.args.s c.requires.1, can_count c.args.self (c.well_formed.0.1.1.1.1.1.1.0.1.0.1) (c.well_formed.0.1.1.1.1.1.1.1.1.0.1.0.1) c.requires.0 _ (c.fields_of-fields.ensures ∙ ap fields c.release-before.ensures))

pub returns : goal.returns
returns c =
    let self = c.args.self in
    let report : Report = record { outcome = c.step-stepped.result.outcome; closed = c.step-stepped.result.closed; next = c.release.result } in
    handed_moved self report c.of.result c.report_byte.result (sym c.moves.ensures ∙ c.if-not-moves.false) c.of.ensures c.report_byte.ensures
    ∙ ap (handed self) (same_report c.args.self (c.well_formed.0.1.1.1.1.1.1.0.1.0.1) (c.well_formed.0.1.1.1.1.1.1.1.1.0.1.0.1) c.requires.0 _ (c.fields_of-fields.ensures ∙ ap fields c.release-before.ensures) c.args.s _ _ _ _ _ _ c.requires.2 (ap (λ (r : Release). r.store) c.release-before.ensures) c.step-stepped.ensures _ c.release.ensures)
