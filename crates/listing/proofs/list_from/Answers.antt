-- `listing::list_from` meets its contract: the listing of steps from a tail, or the refusal's line. Assumes nothing.
use mathlib.Core.Path.{◌≡◌, sym, ap, ◌∙◌}
use mathlib.Core.List.{List}
use Prim.Native.Nat.{ℕ}
use Rattle.kind.specs.declared.Kind.{Kind}
use Rattle.state.specs.Fields.{release_in}
use Rattle.passes.specs.Pass.{reading_from}
use Rattle.passes.proofs.Passed.{counted}
use Rattle.start.specs.declared.Start.{Start}
use Rattle.start.specs.Start.{start_release, start_of, read_from, validated_from}
use Rattle.start.proofs.Begun.{BegunFrom, begun_from, refused_from}
use Rattle.start.proofs.Kept.{rest_bytes_kept}
use Rattle.listing.specs.Listing.{reading_text, listing_from}
use Rattle.start.proofs.AnyRefusal.{context_own, first_pass}
use Rattle.listing.proofs.Listed.{text_from, same_text}
use Rattle.listing.proofs.list_from.Goals as goal
use Rattle.listing.proofs.list_from.Goals.{After-validate_from}

-- the text of a run from the start of a tail is its listing
from_tail : (tail bytes : List ℕ) (s : Start) (m : ℕ) → BegunFrom tail bytes s m
    → reading_text (λ _. release_in s.numbers s.store) (reading_from bytes s.context.header 0) ≡ listing_from tail bytes
from_tail tail bytes s m b =
    ap (reading_text (λ _. release_in s.numbers s.store)) b.at_once
    ∙ text_from (λ _. start_release tail) (read_from tail bytes) s.context m b.steps _ b.start_back

pub validate_from-requires : goal.validate_from-requires
validate_from-requires c = context_own c.args.tail.now c.read_start.result c.map_err-read.result c.read_start.ensures c.map_err-read.ensures.cases

-- the first pass
first : (c : After-validate_from) → c.validate_from.result ≡ validated_from (start_of Kind.WideHeader c.args.tail.now) c.args.rest.now
first c =
    first_pass c.args.tail.now c.read_start.result c.map_err-read.result c.read_start.ensures c.map_err-read.ensures.cases c.args.rest.now
    c.validate_from.result c.validate_from.ensures

pub list_steps-requires : goal.list_steps-requires
list_steps-requires c =
    let tail = c.args.tail.now in
    let rest = c.args.rest.now in
    let b = begun_from tail rest (first (goal.at.list_steps-requires c).After-validate_from) c.in-Ok.start c.in-Ok.steps c.in-Ok.is in
    let x = counted (read_from tail rest) c.in-Ok.start.context c.in-Ok.steps b.steps in
    (b.ready, (rest_bytes_kept tail rest c.in-Ok.start.context.header _ x.accepted).short)

pub returns-in-Ok : goal.returns-in-Ok
returns-in-Ok c =
    let tail = c.args.tail.now in
    let rest = c.args.rest.now in
    let b = begun_from tail rest (first (goal.at.returns-in-Ok c).After-validate_from) c.in-Ok.start c.in-Ok.steps c.in-Ok.is in
    same_text (from_tail tail rest c.in-Ok.start c.in-Ok.steps b) c.args.text.now c.list_steps.ensures

pub returns-in-Err : goal.returns-in-Err
returns-in-Err c =
    let tail = c.args.tail.now in
    let rest = c.args.rest.now in
    let e = refused_from tail rest (first (goal.at.returns-in-Err c).After-validate_from) c.in-Err.refused c.in-Err.is in
    same_text (sym (ap (reading_text (λ _. start_release tail)) e)) c.args.text.now c.list_refusal.ensures
