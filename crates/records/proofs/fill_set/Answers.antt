-- `records::fill_set` meets its contract: the rest of the byte where the cursor stands. Assumes nothing.
use Rattle.records.proofs.Fills.{fill_out, fill_whole, fill_some}
use Rattle.records.proofs.fill_set.Goals as goal

pub returns-then-page-at : goal.returns-then-page-at
returns-then-page-at c = fill_out _ _ c.args.bits.fits c.requires c.if-page-at.true

pub returns-then-bit-eq0 : goal.returns-then-bit-eq0
returns-then-bit-eq0 c = fill_whole _ _ c.args.bits.fits c.requires c.if-page-at.false c.if-bit-eq0.true

pub returns : goal.returns
returns c = fill_some _ _ c.args.bits.fits c.requires c.if-page-at.false c.if-bit-eq0.false _ c.set_from.ensures
