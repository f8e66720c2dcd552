-- `listing::list_steps` meets its contract: the step bytes and the last lines, and then the text of them. Assumes nothing.
use mathlib.Core.Path.{sym}
use native.Mathlib.Omega.{arith}
use lib.Seq.{length-take-le}
use Rattle.passes.proofs.Passed.{stand}
use Rattle.listing.proofs.Listed.{run_room, run_long, run_small, run_few, run_listed}
use Rattle.listing.proofs.list_steps.Goals as goal

pub run_steps-left-requires : goal.run_steps-left-requires
run_steps-left-requires c = (c.requires.0, run_room c.requires.0 c.requires.1)

pub put_end-length-requires : goal.put_end-length-requires
put_end-length-requires c =
    let small = run_small c.requires.0 c.requires.1 c.run_steps-left.ensures c.release-end.ensures in
    (small.0, omega (arith, small.1))

pub slice_bounds-bytes-end : goal.slice_bounds-bytes-end
slice_bounds-bytes-end c = omega (arith, run_room c.requires.0 c.requires.1, c.run_steps-left.auto.report)

pub slice_bounds-put_listing-end : goal.slice_bounds-put_listing-end
slice_bounds-put_listing-end c = sym (run_long c.requires.0 c.requires.1 c.run_steps-left.ensures)

pub slice_bounds-last-end : goal.slice_bounds-last-end
slice_bounds-last-end c =
    let small = run_small c.requires.0 c.requires.1 c.run_steps-left.ensures c.release-end.ensures in
    omega (arith, small.1, c.put_end-length.auto.text)

pub slice_bounds-put_listing-end-2 : goal.slice_bounds-put_listing-end-2
slice_bounds-put_listing-end-2 c =
    let end = c.put_end-length in
    let small = run_small c.requires.0 c.requires.1 c.run_steps-left.ensures c.release-end.ensures in
    sym (length-take-le end.result end.new.text (omega (arith, small.1, end.auto.text)))

pub put_listing-requires : goal.put_listing-requires
put_listing-requires c =
    let args = c.args in (
      omega (
        arith,
        run_long c.requires.0 c.requires.1 c.run_steps-left.ensures,
        (stand args.schedule.now args.start args.context args.steps c.requires.0.steps).few,
      ),
      omega (arith, run_few c.requires.0 c.requires.1 c.run_steps-left.ensures c.release-end.ensures c.put_end-length.ensures),
    )

pub returns : goal.returns
returns c = rw (run_listed c.requires.0 c.requires.1 c.run_steps-left.ensures c.release-end.ensures c.put_end-length.ensures) at c.put_listing.ensures
