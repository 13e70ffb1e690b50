-- `listing::put_orientable` meets its contract: the line for each of the two answers. Assumes nothing.
use mathlib.Core.Path.{refl}
use Rattle.listing.specs.Listing.{orientable_line}
use Rattle.words.proofs.Laws.{wrote_same}
use Rattle.listing.proofs.put_orientable.Goals as goal

pub returns-then-orientable-clause-text_put : goal.returns-then-orientable-clause-text_put
unfolding orientable_line
returns-then-orientable-clause-text_put c = wrote_same c.put.ensures (rw c.if-orientable.true refl)

pub returns-clause-text_put : goal.returns-clause-text_put
unfolding orientable_line
returns-clause-text_put c = wrote_same c.put-2.ensures (rw c.if-orientable.false refl)
