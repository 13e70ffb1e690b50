-- `writer::put_body` meets its contract: the replay goes along the walk, the queues below j are empty, and what was put are the codes of the symbols so far. A
-- turn makes a step or goes on to the next rank. Assumes nothing.
use Prim.Native.Nat.{◌+◌, ◌-◌, ◌<◌}
use mathlib.Core.Path.{◌≡◌, ap}
use native.Mathlib.Omega.{arith}
use lib.ListN.{get_or}
use Rattle.rules.specs.Lists.{sum}
use Rattle.rules.specs.Walk.{enough}
use Rattle.rules.specs.Inner.{Lowest}
use Rattle.rules.proofs.Lowest.{emptied_none}
use Rattle.tables.specs.Maps.{of}
use Rattle.walk.proofs.Walking.{emptied_after}
use Rattle.replay.specs.declared.Replayed.{Replayed}
use Rattle.replay.specs.Replays.{AtHead}
use Rattle.writer.specs.Written.{WentOn}
use Rattle.writer.proofs.Replays.{yield_fits, went_goes, went_fits, went_left, went_served, went_less}
use Rattle.writer.proofs.put_body.Goals as goal
use Rattle.writer.proofs.put_body.Goals.{Else-count-positions, After-step-s, After-put_yield}

-- j is the lowest queue that isn't empty, and a step is made at its head
served : (c : Else-count-positions) → Lowest c.args.valid.now.map.dim c.loop-j.count c.loop-j.positions c.loop-j.j
served c = record { ranked = omega arith; lower = c.loop-j.invariant.1; some = c.if-count-positions.false }

headed : (c : Else-count-positions) → let l = c.loop-j in AtHead c.args.valid.now.map.darts c.args.work.now l.count (get_or l.positions l.j 0)
headed c =
    let v = c.args.valid.now in
    let p = c.requires in
    went_served v.map.limits v.valid c.loop-j.invariant.2 p.1 _ (served c) p.0

less : (c : After-step-s) → let m = c.args.valid.now.map in
    enough m.dim m.darts - sum c.step-s.new.positions < enough m.dim m.darts - sum c.loop-j.positions
less c =
    let e = (goal.at.After-step-s c).Else-count-positions in
    let v = c.args.valid.now in
    went_less v.map.limits v.valid c.loop-j.invariant.2 c.requires.1 _ (served e) c.step-s.ensures.1

went : (c : After-put_yield) → let a = c.args in let s = c.step-s in
    of WentOn a.valid.now.map a.work.now a.from a.positions.now a.sheet.now s.result.count s.new.positions c.put_yield.new.sheet
went c =
    let e = (goal.at.After-put_yield c).Else-count-positions in
    let v = c.args.valid.now in
    let k = c.step-s.ensures in
    went_goes v.map.limits v.valid c.loop-j.invariant.2 _ (served e) _ k.0 k.1 c.put_yield.ensures

pub step-s-requires : goal.step-s-requires
step-s-requires c = (omega arith, headed (goal.at.step-s-requires c).Else-count-positions)

pub put_yield-requires : goal.put_yield-requires
put_yield-requires c =
    let v = c.args.valid.now in
    let h = headed (goal.at.put_yield-requires c).Else-count-positions in (
      went_fits v.map.limits v.valid c.loop-j.invariant.2 c.requires.1,
      yield_fits _ _ _ _ _ _ _ h.count _ (ap (λ (r : Replayed). r.written) c.step-s.ensures.0),
    )

pub loop-j-smaller-then-next-count : goal.loop-j-smaller-then-next-count
loop-j-smaller-then-next-count c = omega (arith, less (goal.at.loop-j-smaller-then-next-count c).After-step-s)

pub loop-j-preserved-then-next-count : goal.loop-j-preserved-then-next-count
loop-j-preserved-then-next-count c =
    (omega arith, emptied_none _ _, went (goal.at.loop-j-preserved-then-next-count c).After-put_yield)

pub loop-j-smaller : goal.loop-j-smaller
loop-j-smaller c = omega (arith, less (goal.at.loop-j-smaller c).After-step-s)

pub loop-j-preserved : goal.loop-j-preserved
loop-j-preserved c = (
  c.loop-j.invariant.0,
  emptied_after c.loop-j.j c.loop-j.invariant.1 c.step-s.ensures.1 c.if-next-count.false,
  went (goal.at.loop-j-preserved c).After-put_yield,
)

pub returns : goal.returns
returns c =
    let v = c.args.valid.now in
    let e : c.loop-j.j ≡ v.map.dim + 1 = omega (arith, c.loop-j.invariant.0) in
    let o = went_left v.map.limits v.valid c.loop-j.invariant.2 c.requires.1 c.loop-j.j c.loop-j.invariant.1 (omega arith) in
    (rw o c.loop-j.invariant.2, rw (o, ← e) c.loop-j.invariant.1)
