-- `listing::list` meets its contract: the listing of a schedule, or its refusal's line. Assumes nothing.
use mathlib.Core.Path.{◌≡◌, sym, ap, ◌∙◌}
use mathlib.Core.List.{List}
use Prim.Native.Nat.{ℕ}
use Rattle.std.specs.Prelude.{Ok}
use Rattle.schedule.specs.Record.{header_record, record_length}
use Rattle.schedule.specs.Schedule.{read_schedule}
use Rattle.state.specs.Fields.{fields, release_in}
use Rattle.passes.specs.Pass.{validated, reading_from, fresh_of}
use Rattle.passes.proofs.Passed.{passed, refused}
use Rattle.passes.proofs.Begun.{begun, fresh_back}
use Rattle.listing.specs.Types.{Header, Context}
use Rattle.listing.specs.Listing.{reading_text, listing}
use Rattle.listing.proofs.Listed.{text_from, same_text}
use Rattle.listing.proofs.list.Goals as goal

-- the text of a run from the fresh release of a schedule's header is its listing
from_fresh : (s : List ℕ) (d : Context) (m : ℕ) → validated (read_schedule s) ≡ Ok (d, m)
    → reading_text (λ _. release_in (fields (fresh_of d.header)) (fresh_of d.header).store)
    (reading_from s d.header (record_length (header_record d.header)))
    ≡ listing s
from_fresh s d m c =
    let h : Header = d.header in
    ap (reading_text (λ _. release_in (fields (fresh_of h)) (fresh_of h).store)) (passed s d m c).after_header
    ∙ text_from fresh_of (read_schedule s) d m c _ (fresh_back h)

pub list_steps-requires : goal.list_steps-requires
list_steps-requires c =
    let s = c.args.schedule.now in
    let valid = sym c.validate.ensures ∙ c.in-Ok.is in
    rw (c.first_step.ensures, c.fresh-numbers.ensures, c.empty.ensures)
    (begun c.in-Ok.context s c.in-Ok.steps valid, (passed s c.in-Ok.context c.in-Ok.steps valid).short)

pub returns-in-Ok : goal.returns-in-Ok
returns-in-Ok c =
    let listed = rw (c.first_step.ensures, c.fresh-numbers.ensures, c.empty.ensures) at c.list_steps.ensures in
    same_text (from_fresh c.args.schedule.now c.in-Ok.context c.in-Ok.steps (sym c.validate.ensures ∙ c.in-Ok.is)) c.args.text.now listed

pub returns-in-Err : goal.returns-in-Err
returns-in-Err c =
    let s = c.args.schedule.now in
    let k = c.in-Err.refused in
    let e = refused (read_schedule s) k.refusal k.value (sym c.validate.ensures ∙ c.in-Err.is) in
    same_text (sym (ap (reading_text fresh_of) e)) c.args.text.now c.list_refusal.ensures
