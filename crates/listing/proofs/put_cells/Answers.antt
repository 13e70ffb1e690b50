-- `listing::put_cells` meets its contract: one text after the other. Assumes nothing.
use Rattle.listing.specs.Listing.{cells_line}
use Rattle.words.proofs.Laws.{wrote_then}
use Rattle.listing.proofs.put_cells.Goals as goal

pub returns-clause-text_put : goal.returns-clause-text_put
unfolding cells_line
returns-clause-text_put c = wrote_then c.put-word.ensures (wrote_then c.put_counts-counts.ensures.text_put c.put.ensures)
