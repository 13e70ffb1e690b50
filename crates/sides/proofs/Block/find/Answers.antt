-- `sides::Block::find` meets its contract: a search that has come to a place ends where the whole search does. Assumes nothing.
use Rattle.sides.specs.Sides.{kid}
use Rattle.sides.proofs.Paths.{seeking_free, seeking_found, seeking_less, seeking_next}
use Rattle.sides.proofs.Block.find.Goals as goal

pub returns-then-self-k : goal.returns-then-self-k
returns-then-self-k c = seeking_found _ _ _ c.loop-at.invariant c.loop-at-test.true c.if-self-k.true

pub loop-at-smaller : goal.loop-at-smaller
unfolding kid
loop-at-smaller c = seeking_less _ _ _ c.loop-at.invariant c.loop-at-test.true

pub loop-at-preserved : goal.loop-at-preserved
unfolding kid
loop-at-preserved c = seeking_next _ _ _ c.loop-at.invariant c.loop-at-test.true c.if-self-k.false

pub returns : goal.returns
returns c = seeking_free _ _ _ c.loop-at.invariant c.loop-at-test.false
