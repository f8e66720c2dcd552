-- `mark::list_whole` meets its contract: where there is room for every listing, none is refused. Assumes nothing.
use Rattle.std.proofs.Common.{arith}
use Rattle.writer.proofs.Texts.{answer_whole}
use Rattle.listing.specs.Listing.{listing}
use Rattle.listing.proofs.Fits.{listing_fits}
use Rattle.mark.proofs.list_whole.Goals as goal

pub returns : goal.returns
returns c =
    let schedule = c.args.schedule.now in
    rw c.unwrap_or.ensures
    (answer_whole c.args.text.now (listing schedule) (listing_fits.whole schedule) (omega (arith, c.told-text)) c.list.new.text c.list.result c.list.ensures.0 c.list.ensures.2)
