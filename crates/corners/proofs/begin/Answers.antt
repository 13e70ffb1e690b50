-- `corners::begin` meets its contract. Assumes nothing.
use mathlib.Core.Path.{refl}
use Rattle.corners.specs.Steps.{begun}
use Rattle.corners.proofs.begin.Goals as goal

pub returns-clause-spot : goal.returns-clause-spot
unfolding begun
returns-clause-spot c = refl
