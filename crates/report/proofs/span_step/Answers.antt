-- `report::span_step` meets its contract: what is marked stays one part of each N-cell that it has, and the darts of the queue
-- up to the head have been crossed by aN. Assumes nothing.
use Prim.Native.Nat.{◌<◌}
use mathlib.Core.Path.{refl}
use native.Mathlib.Omega.{arith}
use Rattle.flood.proofs.Orbits.{orbit_inside, flooded_but, flooded_on}
use Rattle.report.proofs.Spans.{spun_few, link_below, head_below, spun_new}
use Rattle.report.proofs.span_step.Goals as goal
use Rattle.report.proofs.span_step.Goals.{After-queued-d, After-link_at-x}

-- the head of the queue is a dart, and its aN leads to one
head : (c : After-queued-d) → c.queued-d.result < c.args.valid.now.map.darts
head c = let p = c.requires in head_below c.args.valid.now.valid p.1 p.2 _ (rw p.0 at c.queued-d.ensures)

across : (c : After-link_at-x) → c.link_at-x.result < c.args.valid.now.map.darts
across c = link_below c.args.valid.now.valid c.link_at-x.ensures (omega arith) (head (goal.at.After-link_at-x c).After-queued-d)

pub flood-requires : goal.flood-requires
flood-requires c =
    let h = across (goal.at.flood-requires c).After-link_at-x in
    (c.requires.0, rw c.all_but-ranks.ensures (omega arith), orbit_inside c.args.valid.now.valid h, omega arith)

pub overflow_add-result : goal.overflow_add-result
overflow_add-result c =
    let v = c.args.valid.now in
    omega (arith, spun_few v.valid c.requires.2, v.map.limits.darts.1)

pub returns : goal.returns
returns c =
    let v = c.args.valid.now in
    let p = c.requires in
    let h = across (goal.at.returns c).After-link_at-x in
    let (same, flooded) = c.flood.ensures in
    let F = flooded_but v.map.dim c.all_but-ranks.ensures flooded in
    let past = (flooded_on p.2.queue h (omega arith) F).past in
    let e = rw p.0 at c.queued-d.ensures in
    ((same, past), refl, spun_new v.valid p.1 p.2 _ e _ c.link_at-x.ensures _ c.if-queue-x.false refl F)
