-- `sheet::put_sheet` meets its contract: the first level has all schedules. Assumes nothing.
use Rattle.std.proofs.Common.{ap, arith, length}
use Rattle.text.proofs.Putting.{put_front}
use Rattle.sheet.proofs.Bytes.{steps_most}
use Rattle.sheet.proofs.Whole.{sites, records, starts, whole}
use Rattle.sheet.proofs.put_sheet.Goals as goal

pub list-requires : goal.list-requires
list-requires c =
    let g = c.requires.0 in
    let numbers = c.fresh.ensures in
    let store = c.empty.ensures in
    let begins = c.begin.ensures in
    let steps = put_front c.put_steps-end.ensures (omega (arith, steps_most c.args.context.header.n (sites g))) in
    (starts g numbers store begins _ (records g _ steps), omega (arith, ap length (whole g numbers store begins), c.requires.1))
