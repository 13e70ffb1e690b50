-- `sides::Block::load` meets its contract: i corners are in the table, none of them a third use. Assumes nothing.
use native.Mathlib.Omega.{arith}
use mathlib.Core.Path.{refl, ◌∙◌}
use Rattle.corners.specs.Steps.{spot}
use Rattle.sides.proofs.Blocks.{loading_start, loading_end, loading_next, loading_hit}
use Rattle.sides.proofs.Block.load.Goals as goal

pub loop-i-init : goal.loop-i-init
loop-i-init c =
    let p = c.requires in
    (refl, loading_start _ (spot c.args.from) _ _ _ _ _ _ p.0 p.1 (omega arith) (omega arith) (omega arith) (omega arith))

pub returns-then-enter-clause-corners : goal.returns-then-enter-clause-corners
returns-then-enter-clause-corners c =
    let (same, loading) = c.loop-i.invariant in
    loading_hit loading c.loop-i-test.true _ (rw same at c.turn-s.ensures.step) _ c.key.ensures _ _ _ _
    c.enter.ensures.0 _ c.if-enter.true

pub loop-i-preserved : goal.loop-i-preserved
loop-i-preserved c =
    let (same, loading) = c.loop-i.invariant in
    let e = c.enter.ensures in (
      c.turn-s.ensures.text ∙ same,
      rw (e.1, e.2)
          (loading_next loading c.loop-i-test.true _ (rw same at c.turn-s.ensures.step) _ c.key.ensures _ _ _ _
          e.0 c.if-enter.false),
    )

pub returns-clause-corners : goal.returns-clause-corners
returns-clause-corners c = loading_end c.loop-i.invariant.1 c.loop-i-test.false
