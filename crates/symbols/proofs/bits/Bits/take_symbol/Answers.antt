-- `symbols::Bits::take_symbol` meets its contract: the bits that wait hold it whole, or it is taken out of a hand. Assumes nothing.
use Rattle.symbols.specs.Hands.{WholeTaken}
use Rattle.symbols.specs.Opened.{Opens}
use Rattle.symbols.proofs.Cursors.{short_told}
use Rattle.symbols.proofs.bits.Bits.take_symbol.Goals as goal

pub returns-in-Some : goal.returns-in-Some
unfolding WholeTaken
returns-in-Some c = (rw c.in-Some.is at c.whole.ensures).1 _ c.args.self.fits

pub opening-requires : goal.opening-requires
unfolding WholeTaken
opening-requires c = c.in_default.ensures

pub returns-in_err-opening : goal.returns-in_err-opening
unfolding Opens
returns-in_err-opening c = short_told _ c.from_residual.ensures.1 c.in_err-opening.ensures

pub returns : goal.returns
unfolding Opens
returns c = let (r, u) = c.in_ok-opening.ensures in rw u at (c.take.ensures c.args.self.cursor (rw u r))
