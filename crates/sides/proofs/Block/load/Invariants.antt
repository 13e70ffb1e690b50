-- `sides::Block::load` meets its contract: i corners are in the table, none of them a third use. Assumes nothing.
use Rattle.std.specs.Prelude.{◌≡◌}
use Rattle.corners.specs.Steps.{spot, of}
use Rattle.sides.proofs.Blocks.{Loading}
use Rattle.sides.proofs.Block.load.Given as goal

abbrev pub invariant-loop-i : goal.invariant-loop-i
invariant-loop-i l =
    (l.c.place.text ≡ l.fn.from.place.text)
    × of Loading l.fn.from l.count l.self.tree l.self.keys l.self.twins l.self.owns l.self.lefts (spot l.c) l.i
