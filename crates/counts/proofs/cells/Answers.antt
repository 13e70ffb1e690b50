-- `counts::cells` meets its contract: each dart below d is marked, and the darts from which floods were started are those that lead
-- their cells. Assumes nothing.
use mathlib.Core.Path.{◌≡◌, refl, sym, ◌∙◌}
use Rattle.std.proofs.Common.{rules}
use native.Mathlib.Omega.{arith}
use Rattle.flood.proofs.Queues.{past_blanked, same_trans}
use Rattle.flood.proofs.Orbits.{orbit_inside, flooded_but, flooded_on}
use Rattle.counts.proofs.Counts.{swept_start, swept_old, swept_new, swept_all, swept_end}
use Rattle.counts.proofs.cells.Goals as goal
use Rattle.counts.proofs.cells.Goals.{else-queue-d, then-queue-d+else-queue-darts}

pub loop-d-init : goal.loop-d-init
loop-d-init c =
    let (_, _, et, ew) = c.new-queue.ensures in
    (rw et (swept_start _ _ _ _ _ _ (omega arith) ew), (refl, refl), refl)

pub flood-requires : goal.flood-requires
flood-requires c = (
  c.loop-d.invariant.1.0 ∙ c.new-queue.ensures.0,
  rw c.all_but-ranks.ensures (omega arith),
  orbit_inside c.args.valid.now.valid (omega arith),
  omega arith,
)

pub returns-then-queue-darts : goal.returns-then-queue-darts
returns-then-queue-darts c =
    let v = c.args.valid.now.valid in
    let (R, same, past) = c.loop-d.invariant in
    let (on, flooded) = c.flood.ensures in
    let F = flooded_but c.args.skip c.all_but-ranks.ensures flooded in
    let (n, name, _, ew) = c.new-queue.ensures in
    let over = (flooded_on R.queue (omega arith) (omega arith) F).past ∙ (past ∙ past_blanked _ _ _ (omega arith) ew) in
    let ended = swept_end v (swept_new v R (omega arith) c.if-queue-d.true F) (omega arith) (omega arith) in
    (ended, search (rules, over, sym (on.1 ∙ (same.1 ∙ name))))

pub loop-d-preserved : goal.loop-d-preserved
loop-d-preserved c =
    let (R, same, past) = c.loop-d.invariant in
    let v = c.args.valid.now.valid in
    elim c.if-queue-d.branch [
      | then-queue-d+else-queue-darts w ↦ let F = flooded_but c.args.skip c.all_but-ranks.ensures w.flood.ensures.1 in
          let on = w.flood.ensures.0 in
          let kept = (flooded_on R.queue (omega arith) (omega arith) F).past ∙ past in
          rw (w.queue-is, w.found-is) (swept_new v R (omega arith) w.if-queue-d.true F, same_trans same on, kept)
      | else-queue-d w ↦ rw (w.queue-is, w.found-is) (swept_old v R (omega arith) w.if-queue-d.false, same, past)
    ]

pub returns : goal.returns
returns c =
    let (R, same, past) = c.loop-d.invariant in
    let z : c.loop-d.d ≡ c.args.valid.now.map.darts = omega arith in
    let (n, name, _, ew) = c.new-queue.ensures in
    let over = past ∙ past_blanked _ _ _ (omega arith) ew in
    (swept_all (rw z at R), search (rules, over, sym (same.1 ∙ name)))
