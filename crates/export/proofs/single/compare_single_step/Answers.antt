-- `export::single::compare_single_step` meets its contract, case by case. Assumes nothing.
use Rattle.std.proofs.Common.{◌≡◌, refl, sym, ap, ◌∙◌, cond, eqb, length, List, ℕ, false}
use Rattle.std.proofs.lemmas.List.Edits.{sets}
use mathlib.Core.Path.{subst}
use Rattle.std.specs.Prelude.{Result}
use borrow.Author.Tests.{le-ltb}
use Rattle.number.specs.Refusal.{refusal_number, accepted}
use Rattle.tail.specs.Single.{done, answered, single_step}
use Rattle.form.specs.Form.{wide, tail_bytes, tail_length, tail_at}
use Rattle.export.specs.Types.{Form, Tail, Refusal, Stepped}
use Rattle.export.specs.Packed.{four_bytes}
use Rattle.export.specs.State.{stepped_packed, stepped_leaves, HandsTail}
use Rattle.export.proofs.Room.{hands_tail}
use Rattle.export.proofs.single.compare_single_step.Goals as goal

-- the number of a refusal is none of what is accepted
never_accepted : (k : Refusal) → eqb (refusal_number k) accepted ≡ false
never_accepted Refusal.EmptyOrTooLong = refl
never_accepted Refusal.UnknownKind = refl
never_accepted Refusal.BodyCutShort = refl
never_accepted Refusal.HeaderMisplaced = refl
never_accepted Refusal.OutOfRange = refl
never_accepted Refusal.TooShort = refl
never_accepted Refusal.NotDue = refl
never_accepted Refusal.WrongRecord = refl
never_accepted Refusal.RefusedByRule = refl
never_accepted Refusal.WrongLength = refl

-- what the step of the tail that the bytes hold answers
module _ (bytes : List ℕ) (kind a b : ℕ) (form : Form) (of : form ≡ wide) (given : Tail) (read : given ≡ tail_at form bytes) (x : Result Stepped Refusal) (e : answered given x ≡ single_step given kind a b) where
  stepped : answered given x ≡ single_step (tail_at wide bytes) kind a b
  stepped = e ∙ ap (λ (t : Tail). single_step t kind a b) (read ∙ ap (λ (f : Form). tail_at f bytes) of)

pub put_state-requires : goal.put_state-requires
put_state-requires c =
    let a = c.args in
    let s = c.in-Ok.stepped in
    let bytes = a.state.now in
    let is = ap (answered c.read_tail.result) (sym c.in-Ok.is) ∙ stepped bytes a.kind a.first a.second c.form_of.result c.form_of.ensures c.read_tail.result c.read_tail.ensures c.single_step.result c.single_step.ensures in
    let there : HandsTail (done s.state s.byte) = subst HandsTail (sym is) (hands_tail bytes a.kind a.first a.second) in
    (c.if-state-lt-TAIL.false, (there refl).0, (there refl).1)

pub returns-in-Ok : goal.returns-in-Ok
returns-in-Ok c =
    let a = c.args in
    let bytes = a.state.now in
    let step = single_step (tail_at wide bytes) a.kind a.first a.second in
    let room = le-ltb (length bytes) (tail_length wide) c.if-state-lt-TAIL.false in
    let is = ap (answered c.read_tail.result) (sym c.in-Ok.is) ∙ stepped bytes a.kind a.first a.second c.form_of.result c.form_of.ensures c.read_tail.result c.read_tail.ensures c.single_step.result c.single_step.ensures in (
      c.four.ensures ∙ ap stepped_packed is ∙ sym (ap (λ b. cond b 6 (stepped_packed step)) room),
      c.put_state.ensures ∙ ap (stepped_leaves bytes) is ∙ sym (ap (λ b. cond b bytes (stepped_leaves bytes step)) room),
    )

pub returns-in-Err : goal.returns-in-Err
returns-in-Err c =
    let a = c.args in
    let k = c.in-Err.refusal in
    let given = c.read_tail.result in
    let bytes = a.state.now in
    let step = single_step (tail_at wide bytes) a.kind a.first a.second in
    let room = le-ltb (length bytes) (tail_length wide) c.if-state-lt-TAIL.false in
    let is = ap (answered given) (sym c.in-Err.is) ∙ stepped bytes a.kind a.first a.second c.form_of.result c.form_of.ensures given c.read_tail.ensures c.single_step.result c.single_step.ensures in
    let stays = sym (ap (λ b. cond b (sets bytes 0 (tail_bytes wide given)) bytes) (never_accepted k)) in (
      c.four-in-Err.ensures ∙ ap (λ n. four_bytes n 0 0 0) c.number-in-Err.ensures ∙ ap stepped_packed is ∙ sym (ap (λ b. cond b 6 (stepped_packed step)) room),
      stays ∙ ap (stepped_leaves bytes) is ∙ sym (ap (λ b. cond b bytes (stepped_leaves bytes step)) room),
    )
