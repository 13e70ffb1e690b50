-- `walk::number_rest` meets its contract: at each turn all queues are empty and every dart before d has a number, and a body begins with d where it has none.
-- Assumes nothing.
use Prim.Native.Nat.{◌≤◌, ◌<◌}
use mathlib.Core.Path.{◌≡◌, ◌∙◌}
use native.Mathlib.Omega.{arith}
use lib.ListN.{get_or}
use borrow.Author.Rules.{rules}
use Rattle.rules.specs.Map.{mark}
use Rattle.rules.proofs.Lists.{get_d_any}
use Rattle.walk.proofs.Going.{passed_none, passed_all, passed_room, passed_underway, passed_body}
use Rattle.walk.proofs.number_rest.Goals as goal
use Rattle.walk.proofs.number_rest.Goals.{Else-work-d}

pub loop-d-init : goal.loop-d-init
loop-d-init c = passed_none c.requires.1

-- where dart d has no number a number is left for it
none : (c : Else-work-d) → get_or c.loop-d.work c.loop-d.d mark ≡ mark
none c = get_d_any c.loop-d.work c.loop-d.d mark 0 (omega (arith, c.loop-d.auto.work)) ∙ c.if-work-d.false

room : (c : Else-work-d) → (c.loop-d.count < c.args.valid.now.map.darts) × (c.loop-d.bodies ≤ c.loop-d.count)
room c = let p = c.requires in passed_room c.args.valid.now.map.limits c.args.valid.now.valid c.loop-d.invariant (omega arith) (none c) p.2.0 p.2.1 p.2.2

pub give_number-requires : goal.give_number-requires
give_number-requires c =
    let r = room (goal.at.give_number-requires c).Else-work-d in
    (omega arith, omega (arith, r.0, c.loop-d.auto.work))

pub overflow_add-count : goal.overflow_add-count
overflow_add-count c = omega (arith, (room (goal.at.overflow_add-count c).Else-work-d).0, c.args.valid.now.map.limits.darts.1)

pub number_body-count-requires : goal.number_body-count-requires
number_body-count-requires c =
    let p = c.requires in
    let e = none (goal.at.number_body-count-requires c).Else-work-d in (
      search rules,
      passed_underway c.args.valid.now.map.limits c.args.valid.now.valid c.loop-d.invariant (omega arith) e c.give_number.ensures p.2.0 p.2.1 p.2.2,
    )

pub overflow_add-bodies : goal.overflow_add-bodies
overflow_add-bodies c = omega (arith, room (goal.at.overflow_add-bodies c).Else-work-d, c.args.valid.now.map.limits.darts.1)

pub loop-d-preserved : goal.loop-d-preserved
loop-d-preserved c =
    let p = c.requires in
    let e = (goal.at.loop-d-preserved c).Else-work-d in
    let k = c.number_body-count.ensures in
    let body = passed_body c.args.valid.now.map.limits c.args.valid.now.valid c.loop-d.invariant (omega arith) (none e) c.give_number.ensures (omega (arith, c.loop-d.auto.work)) (room e).0 k.0 k.1 in
    body

pub returns : goal.returns
returns c = let p = c.requires in passed_all c.args.valid.now.map.limits c.args.valid.now.valid c.loop-d.invariant (omega arith)
