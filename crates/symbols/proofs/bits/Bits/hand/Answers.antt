-- `symbols::Bits::hand` meets its contract: the bits of the cursor's byte, or none, behind those that wait. Assumes nothing.
-- What several answers name by the same `let` is what one call answered: as a lemma it would be no shorter.
use native.Mathlib.Omega.{arith}
use Rattle.symbols.proofs.Hands.{head_small}
use Rattle.symbols.proofs.Cursors.{alone, behind}
use Rattle.symbols.proofs.bits.Bits.hand.Goals as goal

pub then-requires : goal.then-requires
then-requires c =
    let p = c.args.self.fits in
    let o = c.waits.ensures _ p in
    let (f, few, e) = c.byte-byte.ensures in
    (omega (arith, p.few, o.bits), head_small o.fits, head_small f)

pub returns-then-self-ne0 : goal.returns-then-self-ne0
returns-then-self-ne0 c =
    let o = c.waits.ensures _ c.args.self.fits in
    let (f, few, e) = c.byte-byte.ensures in
    behind c.args.self.cursor o e (c.then.ensures _ o.fits f)

pub returns : goal.returns
returns c =
    let (f, few, e) = c.byte-byte.ensures in
    alone c.args.self.cursor c.if-self-ne0.false f e
