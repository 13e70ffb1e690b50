-- `build::ends` meets its contract. Assumes nothing.
use mathlib.Core.Path.{refl}
use native.Mathlib.Omega.{arith}
use borrow.Author.Tests.{le-leb, lt-leb, eq-eqb, ne_eqb}
use Rattle.build.specs.Parts.{joined_at}
use Rattle.build.proofs.ends.Goals as goal

pub returns-then-twin-ge-CORNERS : goal.returns-then-twin-ge-CORNERS
unfolding joined_at
returns-then-twin-ge-CORNERS c = rw (le-leb 2048 _ c.if-twin-ge-CORNERS.true) (refl, omega arith, omega arith)

pub returns-then-owns-e : goal.returns-then-owns-e
unfolding joined_at
returns-then-owns-e c = rw (lt-leb 2048 _ c.if-twin-ge-CORNERS.false, eq-eqb _ _ c.if-owns-e.true) (refl, omega arith, omega arith)

pub returns : goal.returns
unfolding joined_at
returns c = rw (lt-leb 2048 _ c.if-twin-ge-CORNERS.false, ne_eqb _ _ c.if-owns-e.false) (refl, omega arith, omega arith)
