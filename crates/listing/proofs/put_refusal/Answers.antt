-- `listing::put_refusal` meets its contract: one line of two words. Assumes nothing.
use mathlib.Core.Path.{refl}
use Rattle.listing.specs.Listing.{refusal_line}
use Rattle.words.proofs.Laws.{wrote_same}
use Rattle.listing.proofs.put_refusal.Goals as goal

pub returns-clause-text_put : goal.returns-clause-text_put
unfolding refusal_line
returns-clause-text_put c = wrote_same c.put_pair.ensures.text_put (rw (c.from-number.ensures, c.from-place.ensures) refl)
