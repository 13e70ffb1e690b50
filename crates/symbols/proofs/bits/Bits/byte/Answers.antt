-- `symbols::Bits::byte` meets its contract: the cursor's byte is loaded if the page has it. Assumes nothing.
use native.Mathlib.Omega.{arith}
use Rattle.symbols.proofs.Hands.{none_fits}
use Rattle.symbols.proofs.Cursors.{ahead_end, ahead_here}
use Rattle.symbols.proofs.bits.Bits.byte.Goals as goal

pub returns-then-cursor-self : goal.returns-then-cursor-self
returns-then-cursor-self c =
    let a = c.args in
    let l = c.here.ensures in
    (l.fits, omega (arith, l.more), ahead_here a.self.cursor c.if-cursor-self.true a.self.fits.in_byte l)

pub returns : goal.returns
returns c =
    let b = c.args.self in
    rw c.none.ensures (none_fits b.cursor.at b.page.now b.fits.within, omega arith, ahead_end b.cursor b.page.now c.if-cursor-self.false)
