-- `text::put_hexadecimal` meets its contract: what is left, put from here on, gives what the whole gives. Assumes nothing.
use Rattle.std.proofs.Common.{arith, ◌∙◌, length-set}
use Rattle.text.proofs.Laws.{hexadecimal_length, hexadecimal_end, next_pair}
use Rattle.text.proofs.put_hexadecimal.Goals as goal

pub bounds-text-at : goal.bounds-text-at
bounds-text-at c = omega (arith, hexadecimal_length c.args.bytes.now)

pub overflow_add-text : goal.overflow_add-text
overflow_add-text c = omega (arith, hexadecimal_length c.args.bytes.now)

pub bounds-text-at-in-loop-b : goal.bounds-text-at-in-loop-b
bounds-text-at-in-loop-b c = simp length-set (omega (arith, hexadecimal_length c.args.bytes.now))

pub overflow_add-at : goal.overflow_add-at
overflow_add-at c = omega (arith, hexadecimal_length c.args.bytes.now)

pub loop-b-preserved : goal.loop-b-preserved
loop-b-preserved c =
    let turn = c.loop-b in
    let next = next_pair turn.text c.args.bytes.now turn.at turn.b-index c.loop-b-test.true in
    record {
      place = omega arith;
      same = simp length-set turn.invariant.same;
      rest = rw (c.digit.ensures, c.digit-in-loop-b.ensures) (next ∙ turn.invariant.rest);
    }

pub returns : goal.returns
returns c = record {
  ends = omega (arith, hexadecimal_length c.args.bytes.now);
  leaves = rw (hexadecimal_end c.args.bytes.now c.loop-b.b-index c.loop-b-test.false) at c.loop-b.invariant.rest;
}
