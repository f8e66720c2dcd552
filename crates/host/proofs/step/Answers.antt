-- `host::step` meets its contract: the numbers that are read are in range, among the 32 that the rules take. Assumes nothing.
use Rattle.std.proofs.Common.{◌≡◌, true, sym, ◌∙◌, refl, ap, arith}
use Rattle.number.proofs.Laws.{and_true}
use Rattle.host.specs.Host.{returned, left, among_in_range, host_in_range, host_transition}
use Rattle.host.proofs.Laws.{given, not_there, was_read}
use Rattle.host.proofs.step.Goals as goal

pub on_event-requires : goal.on_event-requires
on_event-requires c =
    let a = c.args in
    let w = was_read a.n a.own a.state a.heard a.event a.detail a.answer c.in-Some.p c.in-Some.e (sym c.read.ensures ∙ c.in-Some.is) in
    let g = given a.n a.own a.state a.heard a.event a.detail a.answer (and_true _ _ (sym c.between.ensures ∙ c.if-not-between.false) w.among) in
    (omega (arith, g.first, g.last, g.size), rw w.event g.event_small)

pub returns-in_default : goal.returns-in_default
returns-in_default c =
    let a = c.args in
    let f = not_there (among_in_range a.n a.own a.state a.heard a.event a.detail a.answer) _ (sym c.read.ensures ∙ c.in_default.is) in
    rw (sym c.between.ensures ∙ c.if-not-between.false, f) (refl, refl)

pub returns : goal.returns
returns c =
    let a = c.args in
    let w = was_read a.n a.own a.state a.heard a.event a.detail a.answer c.in-Some.p c.in-Some.e (sym c.read.ensures ∙ c.in-Some.is) in
    let q : host_in_range a.n a.own a.state a.heard a.event a.detail a.answer ≡ true = and_true _ _ (sym c.between.ensures ∙ c.if-not-between.false) w.among in
    let t : c.on_event.result ≡ host_transition a.n a.own a.state a.heard a.event a.detail a.answer = c.on_event.ensures ∙ rw (c.full-all.ensures, w.participant, w.event) refl in
    (c.hand_over.ensures.0 ∙ rw q (ap (returned _) t), c.hand_over.ensures.1 ∙ rw q (ap (left _) t))
