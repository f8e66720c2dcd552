-- `text::put_decimal` meets its contract: digit by digit, the last one first. Assumes nothing.
use Rattle.std.proofs.Common.{◌≡◌, ◌+◌, ◌-◌, arith, ap, sym, ◌∙◌, length}
use Rattle.std.proofs.lemmas.List.Edits.{sets}
use Rattle.text.specs.Text.{decimal}
use Rattle.text.proofs.Laws.{last_digits, all_digits, last_digit}
use Rattle.text.proofs.put_decimal.Goals as goal

pub loop-at-init : goal.loop-at-init
loop-at-init c =
    let n = c.args.n in
    let all : c.args.place + c.decimal_length.result - c.args.place ≡ length (decimal n) = omega arith in
    (omega arith, ap (sets c.args.text.now c.args.place) (ap (λ k. last_digits k n) all ∙ all_digits n))

pub loop-at-preserved : goal.loop-at-preserved
loop-at-preserved c =
    let turn = c.loop-at in
    let next = last_digit turn.text c.args.place (turn.at - 1) turn.at turn.rest (omega arith) (omega arith) in
    (omega arith, rw c.digit.ensures (next ∙ turn.invariant.1))

pub returns : goal.returns
returns c =
    let none : c.loop-at.at - c.args.place ≡ 0 = omega arith in
    record {
      ends = omega arith;
      leaves = sym (ap (λ k. sets c.loop-at.text c.args.place (last_digits k c.loop-at.rest)) none) ∙ c.loop-at.invariant.1;
    }
