-- `corners::face_of` meets its contract: so many faces have ended before the corner. Assumes nothing.
use native.Mathlib.Omega.{arith}
use mathlib.Core.Path.{◌∙◌}
use borrow.Author.Tests.{le-leb, lt-leb}
use Rattle.corners.proofs.Steps.{ended_start, ended_next}
use Rattle.corners.proofs.face_of.Goals as goal
use Rattle.corners.proofs.face_of.Goals.{then-s-le1, else-s-le1}

pub loop-init : goal.loop-init
loop-init c = (c.begin-c.ensures.text, rw c.begin-c.ensures.spot (ended_start _ _))

pub loop-preserved : goal.loop-preserved
loop-preserved c =
    let (same, ended) = c.loop.invariant in
    let s = c.turn-s.ensures in (
      s.text ∙ same,
      ended_next _ ended _ _ (rw same at s.step)
          (elim c.if-s-le1.branch [
            | then-s-le1 w ↦ rw (le-leb _ 1 w.if-s-le1.true) w.face-is
            | else-s-le1 w ↦ rw (lt-leb _ 1 w.if-s-le1.false) (omega arith)
          ]),
    )
