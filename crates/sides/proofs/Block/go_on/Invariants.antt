-- `sides::Block::go_on` meets its contract: i corners are met, none of them a third use of a side of the table. Assumes nothing.
use Rattle.std.specs.Prelude.{◌≡◌}
use Rattle.corners.specs.Steps.{spot, of}
use Rattle.sides.proofs.Blocks.{Meeting}
use Rattle.sides.proofs.Block.go_on.Given as goal

abbrev pub invariant-loop-i : goal.invariant-loop-i
invariant-loop-i l =
    (l.c.place.text ≡ l.fn.from.place.text)
    × of Meeting l.fn.from l.count l.initial.self.tree l.initial.self.keys l.initial.self.twins l.self.twins (spot l.c) l.i
    × (l.self.tree ≡ l.initial.self.tree) × (l.self.keys ≡ l.initial.self.keys)
