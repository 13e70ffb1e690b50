-- `sides::Block::go_on` meets its contract: i corners are met, none of them a third use of a side of the table. Assumes nothing.
use mathlib.Core.Path.{refl, ◌∙◌}
use Rattle.corners.specs.Steps.{spot}
use Rattle.sides.proofs.Blocks.{meeting_start, meeting_end, meeting_next, meeting_hit}
use Rattle.sides.proofs.Block.go_on.Goals as goal

pub loop-i-init : goal.loop-i-init
loop-i-init c = (refl, meeting_start _ (spot c.args.from) _ _ _ _ c.requires, refl, refl)

pub returns-then-meet : goal.returns-then-meet
returns-then-meet c =
    let (same, meeting, tree, keys) = c.loop-i.invariant in
    meeting_hit meeting c.loop-i-test.true _ (rw same at c.turn-s.ensures.step) _ c.key.ensures _ _
    (rw (tree, keys) at c.meet.ensures.0) c.if-meet.true

pub loop-i-preserved : goal.loop-i-preserved
loop-i-preserved c =
    let (same, meeting, tree, keys) = c.loop-i.invariant in
    let m = c.meet.ensures in (
      c.turn-s.ensures.text ∙ same,
      meeting_next meeting c.loop-i-test.true _ (rw same at c.turn-s.ensures.step) _ c.key.ensures _ _
          (rw (tree, keys) at m.0) c.if-meet.false,
      m.1 ∙ tree,
      m.2 ∙ keys,
    )

pub returns : goal.returns
returns c = meeting_end c.loop-i.invariant.1 c.loop-i-test.false
