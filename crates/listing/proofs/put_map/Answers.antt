-- `listing::put_map` meets its contract: one text after the other, in room for the longest. Assumes nothing.
use mathlib.Core.Path.{refl}
use Rattle.listing.specs.Listing.{map_text, first_line, free_line, steps_line}
use Rattle.words.proofs.Laws.{wrote_then, wrote_same}
use Rattle.listing.proofs.put_map.Goals as goal

pub returns-clause-text_put : goal.returns-clause-text_put
unfolding map_text first_line free_line steps_line
returns-clause-text_put c =
    let first = c.put_pair-first.ensures.text_put in
    let lines = c.put_darts-lines.ensures.text_put in
    let counts = c.put_cells-counts.ensures.text_put in
    let pairs = c.put_line-pairs.ensures.text_put in
    let steps = c.put_line-done.ensures.text_put in
    wrote_same (wrote_then first (wrote_then lines (wrote_then counts (wrote_then pairs (wrote_then steps c.put_orientable.ensures.text_put)))))
    (rw (c.from-dim.ensures, c.from-darts.ensures, c.from.ensures, c.from-2.ensures) refl)
