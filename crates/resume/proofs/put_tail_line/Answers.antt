-- `resume::put_tail_line` meets its contract: the last bytes of the report in hexadecimal, or nothing. Assumes nothing.
use Rattle.std.proofs.Common.{arith, sym}
use Rattle.text.proofs.Putting.{put_then, put_same}
use Rattle.resume.proofs.Laws.{TailThere, tail_there, no_tail, put_none}
use Rattle.resume.proofs.put_tail_line.Goals as goal
use Rattle.resume.proofs.put_tail_line.Goals.{In-Ok}

-- the tail that the run left
there : (c : In-Ok) → TailThere c.args.tail.now c.args.rest.now c.args.report.now c.in-Ok.end c.run_from.new.report
there c = rw c.in-Ok.ensures.2 (tail_there c.args.tail.now c.args.rest.now c.args.report.now c.in-Ok.end (sym c.in-Ok.ensures.0))

pub overflow_sub-end : goal.overflow_sub-end
overflow_sub-end c =
    let t = there (goal.at.overflow_sub-end c).In-Ok in
    omega (arith, t.start)

pub put_hexadecimal-digits-requires : goal.put_hexadecimal-digits-requires
put_hexadecimal-digits-requires c =
    let t = there (goal.at.put_hexadecimal-digits-requires c).In-Ok in
    omega (arith, t.digits)

pub put-requires : goal.put-requires
put-requires c =
    let t = there (goal.at.put-requires c).In-Ok in
    omega (arith, t.digits)

pub returns : goal.returns
returns c =
    let t = there (goal.at.returns c).In-Ok in
    put_same (sym t.said) (put_then c.put-word.ensures (put_then c.put_hexadecimal-digits.ensures c.put.ensures))

pub returns-in_default : goal.returns-in_default
returns-in_default c =
    let none = no_tail c.args.tail.now c.args.rest.now c.args.report.now (omega (arith, c.told-report)) c.in_default.field-0 (sym c.in_default.ensures.0) in
    put_same (sym none) (put_none c.args.text.now c.args.place)
