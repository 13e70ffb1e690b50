-- `sides::Block::meet` meets its contract. Assumes nothing.
use mathlib.Core.Path.{refl}
use Rattle.sides.proofs.Paths.{found_low}
use Rattle.sides.proofs.Sweeps.{meets_free, meets_twin}
use Rattle.sides.proofs.Block.meet.Goals as goal

pub again-requires : goal.again-requires
again-requires c = found_low _ _ _ _ c.requires c.in-Ok.ensures

pub returns-in-Ok : goal.returns-in-Ok
returns-in-Ok c = (meets_twin _ _ _ _ _ c.in-Ok.ensures _ _ c.again.ensures.0 c.again.ensures.1, refl, refl)

pub returns-in-Err : goal.returns-in-Err
returns-in-Err c = (meets_free _ _ c.args.self.now.twins _ _ c.in-Err.ensures, refl, refl)
