-- `fitness::rank_passed` meets its contract: `bad` counts the darts before d that have no link of the rank. Assumes nothing.
use Prim.Native.Nat.{◌<◌}
use native.Mathlib.Omega.{arith}
use lib.ListN.{length}
use Rattle.tables.proofs.Laws.{place_within}
use Rattle.fitness.proofs.Laws.{tallied_start, tallied_pass, tallied_fail, linked_yes, linked_no}
use Rattle.fitness.proofs.rank_passed.Goals as goal
use Rattle.fitness.proofs.rank_passed.Goals.{else-map-place, then-map-place}

pub loop-d-init : goal.loop-d-init
loop-d-init c = tallied_start _ _ _ c.requires.1

pub offset_bounds-map-place : goal.offset_bounds-map-place
offset_bounds-map-place c =
    let within : c.place.result < length c.args.map.now.tables.now =
    rw c.place.ensures (place_within _ _ _ _ c.loop-d.d c.args.map.now.limits c.requires.0 (omega arith)) in
    omega (arith, within)

pub bounds-map-place : goal.bounds-map-place
bounds-map-place c =
    let within : c.place.result < length c.args.map.now.tables.now =
    rw c.place.ensures (place_within _ _ _ _ c.loop-d.d c.args.map.now.limits c.requires.0 (omega arith)) in
    within

pub loop-d-preserved : goal.loop-d-preserved
loop-d-preserved c =
    let p = c.requires in
    elim c.if-map-place.branch [
      | then-map-place w ↦
          rw w.bad-is (tallied_fail c.loop-d.invariant (omega arith)
          (linked_no _ _ _ _ c.loop-d.d _ c.args.map.now.limits p.0 (omega arith) c.place.ensures w.if-map-place.true))
      | else-map-place w ↦
          rw w.bad-is (tallied_pass c.loop-d.invariant (omega arith)
          (linked_yes _ _ _ _ c.loop-d.d _ c.args.map.now.limits p.0 (omega arith) c.place.ensures w.if-map-place.false))
    ]
