-- `listing::put_dart` meets its contract: one text after the other. Assumes nothing.
use mathlib.Core.Path.{refl}
use Rattle.listing.specs.Listing.{dart_line}
use Rattle.words.proofs.Laws.{wrote_then, wrote_same}
use Rattle.listing.proofs.put_dart.Goals as goal

pub returns-clause-text_put : goal.returns-clause-text_put
unfolding dart_line
returns-clause-text_put c =
    wrote_same (wrote_then c.put_number-number.ensures.text_put (wrote_then c.put_links-links.ensures.text_put c.put.ensures)) (rw c.from.ensures refl)
