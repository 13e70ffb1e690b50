-- `sides::third_use` meets its contract: the blocks up to done are swept. Assumes nothing.
use native.Mathlib.Omega.{arith}
use mathlib.Core.Path.{◌∙◌}
use Rattle.sides.proofs.Blocks.{sweeping_start, sweeping_end, sweeping_last, sweeping_next}
use Rattle.sides.proofs.third_use.Goals as goal

pub loop-done-init : goal.loop-done-init
loop-done-init c = (c.begin-c.ensures.text, sweeping_start _ _ _ _ c.begin-c.ensures.spot)

pub returns-then-limit-done-le-BLOCK : goal.returns-then-limit-done-le-BLOCK
returns-then-limit-done-le-BLOCK c =
    let (same, swept) = c.loop-done.invariant in
    let b = rw same at c.of_block-b.ensures.corners in
    sweeping_last swept _ b.0 (omega (arith, c.if-limit-done-le-BLOCK.true))

pub loop-done-preserved : goal.loop-done-preserved
loop-done-preserved c =
    let (same, swept) = c.loop-done.invariant in
    let b = rw same at c.of_block-b.ensures.corners in
    let h = c.if-limit-done-le-BLOCK.false in
    (c.of_block-b.ensures.text ∙ same, sweeping_next swept _ b.0 _ (omega arith) (b.1 (omega arith)))

pub returns : goal.returns
returns c = sweeping_end c.loop-done.invariant.1 c.loop-done-test.false
