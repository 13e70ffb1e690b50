-- `flood::Queue::flood_on` meets its contract: from the start's place up to the head each dart of the queue is spread from.
-- A head below the queue's end is below n. Assumes nothing.
use mathlib.Core.Path.{◌∙◌}
use native.Mathlib.Omega.{arith}
use Rattle.flood.proofs.Queues.{same_trans}
use Rattle.flood.proofs.Floods.{flooding_inside, flooding_next, flooding_over}
use Rattle.flood.proofs.Queue.flood_on.Goals as goal

pub spread-requires : goal.spread-requires
spread-requires c =
    let p = c.requires in
    let e = c.queued-next.ensures in
    let (same, on) = c.loop-head.invariant in
    let (start, class, O, F₀) = p.3 in
    let F = on start class F₀ in
    let Q = F.on.queue in
    let h = c.loop-head-test.true in
    let z = same.0 ∙ p.0 in
    (z, p.1, rw (e, z) (Q.darts _ h), rw (e, z) (flooding_inside F O h), rw (e, z) (Q.classes _ h))

pub loop-head-preserved : goal.loop-head-preserved
loop-head-preserved c =
    let (same, on) = c.loop-head.invariant in
    let (same', spread) = c.spread.ensures in
    let S = rw (c.queued-next.ensures, same.0 ∙ c.requires.0) at spread in
    (same_trans same same', λ start class F. flooding_next (on start class F) c.loop-head-test.true S)

pub returns : goal.returns
returns c =
    let (same, on) = c.loop-head.invariant in
    (same, λ start class F. flooding_over (on start class F) c.requires.2 (omega arith))
