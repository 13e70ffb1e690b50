-- `report::span_body` meets its contract: after each turn the darts of the queue below the head have been crossed by aN; at the end that is
-- the whole queue. Assumes nothing.
use mathlib.Core.Path.{refl, ◌∙◌}
use native.Mathlib.Omega.{arith}
use Rattle.flood.proofs.Queues.{same_trans}
use Rattle.flood.proofs.Orbits.{orbit_inside, flooded_but, flooded_on}
use Rattle.report.proofs.Spans.{spun_few, spun_body, spun_end}
use Rattle.report.proofs.span_body.Goals as goal

pub flood-requires : goal.flood-requires
flood-requires c =
    let p = c.requires in
    (p.0, rw c.all_but-ranks.ensures (omega arith), orbit_inside c.args.valid.now.valid p.2.0, omega arith)

pub overflow_add-s : goal.overflow_add-s
overflow_add-s c =
    let v = c.args.valid.now in
    omega (arith, spun_few v.valid c.requires.1, v.map.limits.darts.1)

pub loop-head-init : goal.loop-head-init
loop-head-init c =
    let v = c.args.valid.now in
    let p = c.requires in
    let F = flooded_but v.map.dim c.all_but-ranks.ensures c.flood.ensures.1 in
    (((refl, refl), refl), refl, spun_body v.valid p.1 p.2 F)

pub returns : goal.returns
returns c =
    let p = c.requires in
    let (stays, next, S) = c.loop-head.invariant in
    let (same, F) = c.flood.ensures in
    let past = (flooded_on p.1.queue p.2.0 (omega arith) F).past in
    ((same_trans same stays.0, stays.1 ∙ past), next, spun_end S c.loop-head-test.false)
