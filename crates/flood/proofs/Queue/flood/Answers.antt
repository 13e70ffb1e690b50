-- `flood::Queue::flood` meets its contract: the start comes up, and the queue is gone through from there. Assumes nothing.
-- What several answers name by the same `let` is what one call answered: as a lemma it would be no shorter.
use Prim.Native.Nat.{◌<◌}
use mathlib.Core.Path.{◌∙◌}
use native.Mathlib.Omega.{arith}
use Rattle.rules.specs.Map.{Reached}
use Rattle.flood.specs.Flood.{kept}
use Rattle.flood.specs.Queues.{Flows}
use Rattle.flood.proofs.Queues.{same_trans}
use Rattle.flood.proofs.Floods.{flooding_start, entered_later, flooding_end}
use Rattle.flood.proofs.Queue.flood.Goals as goal
use Rattle.flood.proofs.Queue.flood.Goals.{Start, After-enter}

-- the start is a dart, and the flood begins with it
inside : (c : Start) → c.args.dart < c.args.map.now.darts
inside c = c.requires.2 _ Reached.here

begun : (c : After-enter) → let a = c.args in let q = c.enter.new.self in
    Flows (kept a.ranks) a.map.now a.dart a.class a.self.now.tail a.self.now.tail q q
begun c =
    let p = c.requires in
    let (same, et, ew) = c.enter.ensures in
    flooding_start (rw p.0 at c.args.self.now.queue) (inside (goal.at.After-enter c).Start) p.3 et (rw p.0 at ew)

pub enter-requires : goal.enter-requires
enter-requires c = (omega (arith, c.requires.0, inside (goal.at.enter-requires c).Start), c.requires.3)

pub flood_on-requires : goal.flood_on-requires
flood_on-requires c =
    let a = c.args in
    let p = c.requires in
    let (same, et, ew) = c.enter.ensures in
    let later = entered_later a.self.now.queue (omega (arith, p.0, inside (goal.at.flood_on-requires c).Start)) p.3 et ew in
    (same.0 ∙ p.0, p.1, later, (a.dart, a.class, p.2, begun (goal.at.flood_on-requires c).After-enter))

pub returns : goal.returns
returns c =
    let p = c.requires in
    let (same, et, ew) = c.enter.ensures in
    let (same', on) = c.flood_on.ensures in
    let F = on _ _ (begun (goal.at.returns c).After-enter) in
    (same_trans same same', flooding_end F et (rw p.0 at ew) (omega arith))
