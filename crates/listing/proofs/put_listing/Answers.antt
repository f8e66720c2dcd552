-- `listing::put_listing` meets its contract: too short, or the lines and then the last ones. Assumes nothing.
use native.Mathlib.Omega.{arith}
use Rattle.listing.proofs.Listed.{parts_fit}
use Rattle.listing.proofs.put_listing.Goals as goal

pub returns : goal.returns
returns c = parts_fit (omega (arith, c.lines_length.ensures)) c.if-text-needed.false c.put_lines-at.ensures c.put.ensures
