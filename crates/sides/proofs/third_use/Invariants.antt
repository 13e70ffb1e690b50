-- `sides::third_use` meets its contract: the blocks up to done are swept. Assumes nothing.
use Prim.Native.Nat.{◌-◌}
use Rattle.std.specs.Prelude.{◌≡◌}
use Rattle.corners.specs.Steps.{spot}
use Rattle.sides.proofs.Blocks.{Sweeping}
use Rattle.sides.proofs.third_use.Given as goal

abbrev pub invariant-loop-done : goal.invariant-loop-done
invariant-loop-done l =
    (l.c.place.text ≡ l.fn.start.text) × Sweeping l.fn.start.text.now l.fn.start.at l.corners (spot l.c) l.done l.limit

abbrev pub decreases-loop-done : goal.decreases-loop-done
decreases-loop-done l = l.limit - l.done
