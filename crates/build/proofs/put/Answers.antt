-- `build::put` meets its contract. Assumes nothing.
use mathlib.Core.Path.{refl}
use Rattle.build.specs.Parts.{six_put}
use Rattle.build.proofs.put.Goals as goal

pub returns : goal.returns
unfolding six_put
returns c = refl
