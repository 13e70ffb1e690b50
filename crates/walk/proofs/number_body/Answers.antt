-- `walk::number_body` meets its contract: the loop goes along the walk of the rules, the queues below j are empty, and the room holds the names so far. A turn
-- makes a step or goes on to the next rank. Assumes nothing.
use Prim.Native.Nat.{◌+◌, ◌-◌, ◌<◌}
use mathlib.Core.Path.{◌≡◌}
use native.Mathlib.Omega.{arith}
use lib.ListN.{get_or}
use Rattle.rules.specs.Lists.{sum}
use Rattle.rules.specs.Walk.{enough}
use Rattle.rules.specs.Inner.{Lowest}
use Rattle.rules.proofs.Lowest.{emptied_none, emptied_next}
use Rattle.walk.specs.Numbers.{Headed}
use Rattle.walk.specs.Standing.{Going, WentOn}
use Rattle.walk.proofs.Walking.{walking_less, emptied_after}
use Rattle.walk.proofs.Going.{rooted, going_headed, went_none, went_step}
use Rattle.tables.specs.Maps.{of}
use Rattle.walk.proofs.number_body.Goals as goal
use Rattle.walk.proofs.number_body.Goals.{Else-count-positions, After-number_step-next}

pub loop-j-init : goal.loop-j-init
loop-j-init c = (omega arith, emptied_none _ _, went_none _ _ _ _ _ _)

pub offset_bounds-positions-j : goal.offset_bounds-positions-j
offset_bounds-positions-j c = omega arith

pub bounds-positions-j : goal.bounds-positions-j
bounds-positions-j c = omega arith

pub overflow_add-j : goal.overflow_add-j
overflow_add-j c = omega arith

pub loop-j-smaller-then-count-positions : goal.loop-j-smaller-then-count-positions
loop-j-smaller-then-count-positions c = omega arith

pub loop-j-preserved-then-count-positions : goal.loop-j-preserved-then-count-positions
loop-j-preserved-then-count-positions c = (
  omega arith,
  emptied_next c.loop-j.count c.loop-j.positions c.loop-j.j c.loop-j.invariant.1
      c.if-count-positions.true,
  c.loop-j.invariant.2,
)

-- j is the lowest queue that is not empty, and a step is made at its head
served : (c : Else-count-positions) → Lowest c.args.valid.now.map.dim c.loop-j.count c.loop-j.positions c.loop-j.j
served c = record { ranked = omega arith; lower = c.loop-j.invariant.1; some = c.if-count-positions.false }

stands : (c : Else-count-positions) → let U = c.requires.1 in let l = c.loop-j in
    of (Going U.form) c.args.valid.now.map U.root U.lent U.bodies l.count l.positions l.work
stands c = let U = c.requires.1 in c.loop-j.invariant.2.going U.form U.root U.lent U.bodies U.going

headed : (c : Else-count-positions) → let l = c.loop-j in of Headed c.args.valid.now.map l.work l.count l.j (get_or l.positions l.j 0)
headed c =
    let v = c.args.valid.now in
    let G = stands c in
    going_headed (rooted v.map.limits v.valid G.dart) G c.loop-j.j (served c) (omega (arith, c.loop-j.auto.work))

less : (c : After-number_step-next) → let m = c.args.valid.now.map in
    enough m.dim m.darts - sum c.number_step-next.new.positions < enough m.dim m.darts - sum c.loop-j.positions
less c =
    let e = (goal.at.After-number_step-next c).Else-count-positions in
    let v = c.args.valid.now in
    let G = stands e in
    walking_less (rooted v.map.limits v.valid G.dart) G.walking c.loop-j.j (served e) c.number_step-next.ensures.0

went : (c : After-number_step-next) → let a = c.args in let n = c.number_step-next in
    of WentOn a.valid.now.map a.from a.positions.now a.work.now n.result n.new.positions n.new.work
went c =
    let e = (goal.at.After-number_step-next c).Else-count-positions in
    let v = c.args.valid.now in
    let k = c.number_step-next.ensures in
    went_step v.map.limits v.valid c.loop-j.invariant.2 c.loop-j.j (served e) (headed e) k.0 k.1 k.2

pub number_step-next-requires : goal.number_step-next-requires
number_step-next-requires c =
    (omega arith, headed (goal.at.number_step-next-requires c).Else-count-positions)

pub loop-j-smaller-then-next-count : goal.loop-j-smaller-then-next-count
loop-j-smaller-then-next-count c = omega (arith, less (goal.at.loop-j-smaller-then-next-count c).After-number_step-next)

pub loop-j-preserved-then-next-count : goal.loop-j-preserved-then-next-count
loop-j-preserved-then-next-count c =
    (omega arith, emptied_none _ _, went (goal.at.loop-j-preserved-then-next-count c).After-number_step-next)

pub loop-j-smaller : goal.loop-j-smaller
loop-j-smaller c = omega (arith, less (goal.at.loop-j-smaller c).After-number_step-next)

pub loop-j-preserved : goal.loop-j-preserved
loop-j-preserved c = (
  c.loop-j.invariant.0,
  emptied_after c.loop-j.j c.loop-j.invariant.1 c.number_step-next.ensures.0 c.if-next-count.false,
  went (goal.at.loop-j-preserved c).After-number_step-next,
)

pub returns : goal.returns
returns c =
    let e : c.loop-j.j ≡ c.args.valid.now.map.dim + 1 = omega (arith, c.loop-j.invariant.0) in
    (c.loop-j.invariant.2, rw e at c.loop-j.invariant.1)
