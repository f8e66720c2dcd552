-- `resume::put_resumed` meets its contract: the listing, which is never refused where there is room, then the line with the tail. Assumes nothing.
use Rattle.std.proofs.Common.{◌≤◌, length, arith}
use Rattle.text.specs.Put.{Put}
use Rattle.text.proofs.Putting.{put_then, put_front}
use Rattle.writer.proofs.Texts.{never_refused, text_put}
use Rattle.start.specs.Start.{read_from}
use Rattle.listing.specs.Listing.{listing_from, longest_text}
use Rattle.listing.proofs.Fits.{listing_fits}
use Rattle.resume.proofs.Laws.{tail_most}
use Rattle.resume.proofs.put_resumed.Goals as goal
use Rattle.resume.proofs.put_resumed.Goals.{In-Ok}

-- the listing stands at the front
listed : (c : In-Ok) → Put c.args.text.now 0 (listing_from c.args.tail.now c.args.rest.now) c.in-Ok.end c.list_from.new.text
listed c =
    let text = c.args.text.now in
    let room : longest_text ≤ length text = omega (arith, c.told-text) in
    let fits = listing_fits.from c.args.tail.now c.args.rest.now in
    text_put text (listing_from c.args.tail.now c.args.rest.now) fits room c.list_from.new.text c.in-Ok.end c.in-Ok.ensures.0 c.in-Ok.ensures.2

pub put_tail_line-requires : goal.put_tail_line-requires
put_tail_line-requires c =
    let put = listed (goal.at.put_tail_line-requires c).In-Ok in
    omega (arith, put.ends, listing_fits.from c.args.tail.now c.args.rest.now, c.told-text)

pub returns-in-Ok : goal.returns-in-Ok
returns-in-Ok c =
    let tail = c.args.tail.now in
    let rest = c.args.rest.now in
    let listing = listed (goal.at.returns-in-Ok c).In-Ok in
    let line = c.put_tail_line.ensures in
    let put = put_then listing line in
    let few = tail_most tail (read_from tail rest) in
    let fits = listing_fits.from tail rest in (
      omega (arith, listing.ends, line.ends, few, fits, c.told-text),
      put_front put (omega (arith, listing.ends, line.ends, put.ends, few, fits, c.told-text)),
    )

pub returns-in-Err : goal.returns-in-Err
returns-in-Err c =
    let text = c.args.text.now in
    let room : longest_text ≤ length text = omega (arith, c.told-text) in
    let fits = listing_fits.from c.args.tail.now c.args.rest.now in
    absurd (never_refused text (listing_from c.args.tail.now c.args.rest.now) fits room c.in-Err.refused c.in-Err.ensures.0)
