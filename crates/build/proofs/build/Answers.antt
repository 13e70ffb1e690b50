-- `build::build` meets its contract: the links of the corners done so far stand. Assumes nothing.
use borrow.Author.Tests.{eq-eqb, ne_eqb}
use Rattle.build.proofs.Entries.{building_start, building_next, building_end}
use Rattle.build.proofs.build.Goals as goal
use Rattle.build.proofs.build.Goals.{then-k-first, else-k-first, then-left-eq1, else-left-eq1}

pub loop-k-init : goal.loop-k-init
loop-k-init c = let a = c.args in building_start a.twins.now a.owns.now a.lefts.now a.corners a.tables.now

pub loop-k-preserved : goal.loop-k-preserved
loop-k-preserved c =
    building_next
    c.loop-k.invariant
    c.requires.0
    c.requires.1
    c.loop-k-test.true
    c.if-k-first.before
    c.if-left-eq1.after.0
    c.ends.result
    (elim c.if-k-first.branch [
      | then-k-first w ↦ rw (eq-eqb _ _ w.if-k-first.true) w.before-is
      | else-k-first w ↦ rw (ne_eqb _ _ w.if-k-first.false) w.before-is
    ])
    (elim c.if-left-eq1.branch [
      | then-left-eq1 w ↦ rw (eq-eqb _ 1 w.if-left-eq1.true, w.after-is)
      | else-left-eq1 w ↦ rw (ne_eqb _ 1 w.if-left-eq1.false, w.after-is)
    ])
    c.ends.ensures.0
    c.if-left-eq1.after.1
    c.put.new.tables
    c.put.ensures
    (elim c.if-left-eq1.branch [
      | then-left-eq1 w ↦ rw (eq-eqb _ 1 w.if-left-eq1.true, w.after-is)
      | else-left-eq1 w ↦ rw (ne_eqb _ 1 w.if-left-eq1.false, w.after-is)
    ])

pub returns : goal.returns
returns c = building_end c.loop-k.invariant c.requires.1 c.loop-k-test.false
