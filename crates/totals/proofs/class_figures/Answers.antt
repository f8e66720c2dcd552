-- `totals::class_figures` meets its contract: what holds while schedules are added up stands in Counting. Assumes nothing.
use mathlib.Core.Path.{◌≡◌, refl, sym, ap, subst, ◌∙◌}
use mathlib.Core.List.{List}
use Prim.Native.Nat.{ℕ, ◌+◌, ◌-◌, ◌≤◌}
use native.Mathlib.Omega.{arith}
use lib.ListN.{take, drop}
use borrow.Author.Rules.{rules}
use Rattle.std.specs.Prelude.{Result, Ok, Err}
use Rattle.std.proofs.lemmas.Grind.{common_steps}
use Rattle.std.proofs.iter.Serving.{serving}
use Rattle.schedule.specs.Record.{longest}
use Rattle.schedule.specs.Schedule.{read_schedule}
use Rattle.passes.specs.Pass.{Validated, validated}
use Rattle.parts.specs.Parts.{part_length}
use Rattle.figures.specs.Figures.{calls_of, no_totals, no_column, answer_with, refused_with, class_answers, class_hands}
use Rattle.totals.specs.Types.{Context, Refused, Totals, Figures}
use Rattle.totals.specs.Adding.{schedule_of, schedule_added, calls_added}
use Rattle.totals.specs.Handed.{figures_hands}
use Rattle.totals.proofs.Handed.{hands}
use Rattle.totals.proofs.Counting.{Counting, set_out, room, entries, size_fits, stops, go_on, arrived, answered}
use Rattle.totals.proofs.class_figures.Goals as goal
use Rattle.totals.proofs.class_figures.Goals.{In_ok-context}

-- the schedule at the place where the loop stands

sizes : (file : List ℕ) (at end : ℕ) → end ≡ at + part_length (drop at file) → end - at ≡ part_length (drop at file)
sizes file at end e = omega (arith, e)

read_here : (file : List ℕ) (at end : ℕ) (x : Validated) → end ≡ at + part_length (drop at file) → x ≡ validated (read_schedule (take (end - at) (drop at file)))
    → validated (read_schedule (take (part_length (drop at file)) (drop at file))) ≡ x
read_here file at end x e read = sym (read ∙ ap (λ k. validated (read_schedule (take k (drop at file)))) (sizes file at end e))

pub loop-at-init : goal.loop-at-init
loop-at-init c =
    let none : c.default-totals.result ≡ no_totals = grind (arith, common_steps) in
    let file = c.args.file.now in
    (search rules, search rules, subst (λ (t : Totals). Counting file t no_column 0) (sym none) (set_out file c.if-file-gt-LONGEST.false))

pub slice_bounds-part-end : goal.slice_bounds-part-end
slice_bounds-part-end c = omega (arith, size_fits c.loop-at.invariant.2 c.loop-at-test.true, c.schedule_end-end.ensures)

-- a refusal is handed on with its place in the file

pub map_err-requires : goal.map_err-requires
map_err-requires c =
    let read = read_here c.args.file.now c.loop-at.at c.schedule_end-end.result _ c.schedule_end-end.ensures c.validate.ensures in
    let near : (k : Refused) → c.validate.result ≡ Err k → c.loop-at.at + k.value ≤ longest + longest =
    λ k e. (stops c.loop-at.invariant.2 c.loop-at-test.true k.refusal k.value (read ∙ e)).0 in
    grind (serving, near)

placed : (c : goal.After-from_residual) (k : Refused) → c.validate.result ≡ Err k
    → ◌≡◌ {A = Result Figures Refused} c.from_residual.result (refused_with k.refusal (c.loop-at.at + k.value))
placed c k e = let was = c.in_err-context.was in grind (arith, common_steps)

unread : (c : goal.After-from_residual) (v : Context × ℕ) → c.validate.result ≡ Ok v → ⊥
unread c v e = let was = c.in_err-context.was in grind (arith, common_steps)

-- what is answered hands over what the file must
whole : (file : List ℕ) (x : Result Figures Refused) → x ≡ class_answers file → (x ≡ class_answers file) × (figures_hands x ≡ class_hands file)
whole file x e = (e, ap figures_hands e ∙ hands file)

pub returns-in_err-context : goal.returns-in_err-context
returns-in_err-context c = whole c.args.file.now c.from_residual.result (go c.validate.result refl)
  where
    go : (x : Validated) → c.validate.result ≡ x → ◌≡◌ {A = Result Figures Refused} c.from_residual.result (class_answers c.args.file.now)
    go (Ok v) e = absurd (unread c v e)
    go (Err k) e =
        let read = read_here c.args.file.now c.loop-at.at c.schedule_end-end.result _ c.schedule_end-end.ensures c.validate.ensures in
        placed c k e
        ∙ (stops c.loop-at.invariant.2 c.loop-at-test.true k.refusal k.value (read ∙ e)).1
        ∙ answered c.args.file.now c.loop-at.invariant.2.short c.loop-at.invariant.0

found : (c : In_ok-context) → c.validate.result ≡ Ok (c.in_ok-context.context, c.in_ok-context.steps)
found c = let was = c.in_ok-context.was in grind (arith, common_steps)

pub with_schedule-totals-requires : goal.with_schedule-totals-requires
with_schedule-totals-requires c = (
  sym c.validate.ensures ∙ found (goal.at.with_schedule-totals-requires c).In_ok-context,
  omega (arith, c.loop-at.invariant.1),
  room c.loop-at.invariant.2,
  entries c.loop-at.invariant.2,
)

-- the totals and the column with it
pub loop-at-preserved : goal.loop-at-preserved
loop-at-preserved c =
    let file = c.args.file.now in
    let at = c.loop-at.at in
    let rest = drop at file in
    let context = c.in_ok-context.context in
    let size = sizes file at c.schedule_end-end.result c.schedule_end-end.ensures in
    let read = read_here file at c.schedule_end-end.result _ c.schedule_end-end.ensures c.validate.ensures in
    let counted = c.with_schedule-totals.ensures.0 ∙ ap (λ k. schedule_added c.loop-at.totals (schedule_of context (take k rest))) size in
    let added = c.with_schedule-totals.ensures.1 ∙ ap (λ k. calls_added c.loop-at.column (calls_of (schedule_of context (take k rest)))) size in (
      c.loop-at.invariant.0,
      omega (arith, c.with_schedule-totals.auto, c.loop-at.invariant.1),
      rw (counted, added, c.schedule_end-end.ensures)
          (go_on c.loop-at.invariant.2 c.loop-at-test.true context c.in_ok-context.steps (read ∙ found (goal.at.loop-at-preserved c).In_ok-context)),
    )

pub with_mean-requires : goal.with_mean-requires
with_mean-requires c = ((arrived c.loop-at.invariant.2 c.loop-at-test.false c.loop-at.invariant.0).0, entries c.loop-at.invariant.2)

pub returns : goal.returns
returns c =
    whole c.args.file.now _
    (ap answer_with c.with_mean.ensures
    ∙ (arrived c.loop-at.invariant.2 c.loop-at-test.false c.loop-at.invariant.0).1
    ∙ answered c.args.file.now c.loop-at.invariant.2.short c.loop-at.invariant.0)
