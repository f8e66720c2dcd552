-- `host::read` meets its contract: an event that is read has numbers in range. Assumes nothing.
use Rattle.std.proofs.Common.{sym, ◌∙◌, refl}
use Rattle.event.specs.Event.{event_of, numbers_in_range}
use Rattle.host.proofs.Laws.{there}
use Rattle.host.proofs.read.Goals as goal

pub returns : goal.returns
returns c =
    let a = c.args in
    let q = there (numbers_in_range a.n a.event a.detail a.answer) (event_of a.event a.detail a.answer) c.in_ok-e.e (sym c.read.ensures ∙ c.in_ok-e.was) in
    let p = sym c.numbers_in_range.ensures ∙ c.if-not-numbers_in_range.false in
    rw (c.of.ensures, sym c.between.ensures ∙ c.if-not-between.false, rw c.requires.1 at p, q.0, q.1) refl
