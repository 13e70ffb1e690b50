-- `faces::fit` meets its contract, test by test. Assumes nothing.
use borrow.Author.Tests.{eq-eqb, ne_eqb, lt-ltb, le-ltb}
use Rattle.faces.specs.Parts.{fit_of}
use Rattle.faces.proofs.fit.Goals as goal

pub returns-then-corners-eq0 : goal.returns-then-corners-eq0
unfolding fit_of
returns-then-corners-eq0 c = rw (c.of.ensures, eq-eqb _ 0 c.if-corners-eq0.true)

pub returns-then-tables-corners : goal.returns-then-tables-corners
unfolding fit_of
returns-then-tables-corners c = rw (c.of-then-tables-corners.ensures, ne_eqb _ 0 c.if-corners-eq0.false, lt-ltb _ _ c.if-tables-corners.true)

pub returns-then-work-corners : goal.returns-then-work-corners
unfolding fit_of
returns-then-work-corners c = rw (c.of-then-work-corners.ensures, ne_eqb _ 0 c.if-corners-eq0.false, le-ltb _ _ c.if-tables-corners.false, lt-ltb _ _ c.if-work-corners.true)

pub returns : goal.returns
unfolding fit_of
returns c = rw (ne_eqb _ 0 c.if-corners-eq0.false, le-ltb _ _ c.if-tables-corners.false, le-ltb _ _ c.if-work-corners.false)
