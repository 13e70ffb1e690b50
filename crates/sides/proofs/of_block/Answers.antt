-- `sides::of_block` meets its contract. Assumes nothing.
use Rattle.corners.specs.Steps.{spot}
use Rattle.sides.proofs.Blocks.{block_short, block_room, block_grown, block_on}
use Rattle.sides.proofs.of_block.Goals as goal

pub returns-then-l-lt-BLOCK-clause-corners : goal.returns-then-l-lt-BLOCK-clause-corners
returns-then-l-lt-BLOCK-clause-corners c = block_short _ (spot c.args.from) _ _ _ c.min.ensures c.load-l.ensures.corners.0 c.if-l-lt-BLOCK.true _

pub overflow_sub-count : goal.overflow_sub-count
overflow_sub-count c = block_room _ (spot c.args.from) _ c.min.ensures c.load-l.ensures.corners c.if-l-lt-BLOCK.false

pub go_on-requires : goal.go_on-requires
go_on-requires c = block_grown _ (spot c.args.from) _ c.min.ensures c.load-l.ensures.corners c.if-l-lt-BLOCK.false

pub returns-clause-corners : goal.returns-clause-corners
returns-clause-corners c =
    block_on _ (spot c.args.from) _ c.min.ensures c.load-l.ensures.corners c.if-l-lt-BLOCK.false _ (rw c.load-l.ensures.text at c.go_on.ensures)
