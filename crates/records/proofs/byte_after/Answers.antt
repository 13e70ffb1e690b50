-- `records::byte_after` meets its contract: the bytes after the one where the cursor stands. Assumes nothing.
use Rattle.records.proofs.Fills.{after_out, after_whole, after_some}
use Rattle.records.proofs.byte_after.Goals as goal

pub returns-then-page-at : goal.returns-then-page-at
returns-then-page-at c = after_out _ _ c.args.bits.fits c.requires c.if-page-at.true

pub returns-then-bit-eq0 : goal.returns-then-bit-eq0
returns-then-bit-eq0 c = after_whole _ _ c.args.bits.fits c.requires c.if-page-at.false c.if-bit-eq0.true

pub returns : goal.returns
returns c = after_some _ _ c.args.bits.fits c.requires c.if-page-at.false c.if-bit-eq0.false
