-- `sides::Block::enter` meets its contract. Assumes nothing.
use mathlib.Core.Path.{refl}
use native.Mathlib.Omega.{arith}
use Rattle.sides.proofs.Paths.{found_low, free_low}
use Rattle.sides.proofs.Sweeps.{enters_free, enters_twin}
use Rattle.sides.proofs.Block.enter.Goals as goal

pub overflow_cast-self : goal.overflow_cast-self
overflow_cast-self c = omega (arith, found_low _ _ _ _ c.requires.0 c.in-Ok.ensures)

pub again-requires : goal.again-requires
again-requires c = found_low _ _ _ _ c.requires.0 c.in-Ok.ensures

pub offset_bounds-self-at : goal.offset_bounds-self-at
offset_bounds-self-at c = omega (arith, (free_low _ _ _ _ c.requires.0 c.in-Err.ensures).0)

pub bounds-self-at : goal.bounds-self-at
bounds-self-at c = (free_low _ _ _ _ c.requires.0 c.in-Err.ensures).0

pub returns-in-Ok : goal.returns-in-Ok
returns-in-Ok c = (enters_twin _ _ _ _ _ c.requires.1 _ c.in-Ok.ensures _ _ c.again.ensures.0 c.again.ensures.1, refl, refl)

pub returns-in-Err : goal.returns-in-Err
returns-in-Err c = (enters_free _ _ c.args.self.now.twins _ _ c.requires.1 _ c.in-Err.ensures, refl, refl)
