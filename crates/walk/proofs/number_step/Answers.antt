-- `walk::number_step` meets its contract: the head leaves Lj, and a partner without number gets the next one. Assumes nothing.
use Prim.Native.Nat.{◌<◌}
use mathlib.Core.Path.{refl}
use native.Mathlib.Omega.{arith}
use lib.ListN.{get_or}
use Rattle.tables.specs.Maps.{of}
use Rattle.walk.proofs.Laws.{Looked, partner_low, numbered_no, stepped_old, stepped_new}
use Rattle.walk.proofs.number_step.Goals as goal
use Rattle.walk.proofs.number_step.Goals.{After-number_of, Else-number_of}

-- the head's partner and its number are looked up; where it has none a number is left
looked : (c : After-number_of) → let a = c.args in
    of Looked a.valid.now.map a.work.now a.j (get_or a.positions.now a.j 0) c.dart_of.result c.partner_of-x.result c.number_of.result
looked c = record { dart = c.dart_of.ensures; partner = c.partner_of-x.ensures; number = c.number_of.ensures }

next : (c : Else-number_of) → c.args.count < c.args.valid.now.map.darts
next c = c.requires.1.next (numbered_no (looked (goal.at.Else-number_of c).After-number_of) c.if-number_of.false)

pub number_of-requires : goal.number_of-requires
number_of-requires c =
    let p = c.requires in
    (omega (arith, p.1.room), rw (c.partner_of-x.ensures, c.dart_of.ensures) (c.args.valid.now.valid.inside _ _ p.0 p.1.dart))

pub returns-then-number_of : goal.returns-then-number_of
returns-then-number_of c =
    let (p, q) = stepped_old (looked (goal.at.returns-then-number_of c).After-number_of) _ c.if-number_of.true in
    (refl, p, q)

pub give_number-requires : goal.give_number-requires
give_number-requires c =
    let p = c.requires in
    let l = looked (goal.at.give_number-requires c).After-number_of in
    (partner_low l c.args.valid.now.valid p.0 p.1.dart, omega (arith, next (goal.at.give_number-requires c).Else-number_of, p.1.room))

pub overflow_add-result : goal.overflow_add-result
overflow_add-result c = omega (arith, next (goal.at.overflow_add-result c).Else-number_of, c.args.valid.now.map.limits.darts.1)

pub returns : goal.returns
returns c =
    let (p, q) = stepped_new (looked (goal.at.returns c).After-number_of) _ _ c.if-number_of.false c.give_number.ensures in
    (refl, p, q)
