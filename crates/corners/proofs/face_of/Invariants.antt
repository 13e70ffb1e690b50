-- `corners::face_of` meets its contract: so many faces have ended before the corner. Assumes nothing.
use Rattle.std.specs.Prelude.{◌≡◌}
use Rattle.corners.specs.Steps.{spot, begun}
use Rattle.corners.proofs.Steps.{Ended}
use Rattle.corners.proofs.face_of.Given as goal

abbrev pub invariant-loop : goal.invariant-loop
invariant-loop l = (l.c.place.text ≡ l.start.text) × Ended l.start.text.now (begun l.start.at) l.counter l.face (spot l.c)
