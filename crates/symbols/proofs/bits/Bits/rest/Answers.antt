-- `symbols::Bits::rest` meets its contract: the hand holds the first of the bits at hand, and at the page's end all. Assumes nothing.
use mathlib.Core.Path.{ap, sym, ◌∙◌}
use native.Mathlib.Omega.{arith}
use lib.ListN.{length}
use Rattle.rules.specs.Stream.{value}
use Rattle.symbols.proofs.Hands.{length_held, head_value, head_few}
use Rattle.symbols.proofs.Cursors.{more_hand, held_hand, all_held}
use Rattle.symbols.proofs.bits.Bits.rest.Goals as goal

pub loaded-hand-requires : goal.loaded-hand-requires
loaded-hand-requires c = let i = c.loop-hand.invariant in (i.fits, omega (arith, held_hand i), c.loop-hand-test.true, omega arith)

pub loop-hand-preserved : goal.loop-hand-preserved
loop-hand-preserved c = more_hand c.loaded-hand.ensures c.loop-hand-test.true c.loop-hand.invariant

pub overflow_cast-result-2 : goal.overflow_cast-result-2
overflow_cast-result-2 c = let i = c.loop-hand.invariant in omega (arith, head_few i.fits (omega (arith, held_hand i)))

pub returns : goal.returns
returns c =
    let i = c.loop-hand.invariant in
    let e = all_held i c.loop-hand-test.false in
    (sym (ap length e ∙ length_held i.fits), sym (ap value e ∙ sym (head_value i.fits)))
