-- `flood::Queue::spread_part` meets its contract: after each turn the links of the ranks from the first one up to i are followed. Assumes nothing.
use mathlib.Core.Path.{refl}
use native.Mathlib.Omega.{arith}
use Rattle.flood.proofs.Sets.{between_yes, between_next, between_end}
use Rattle.flood.proofs.Queues.{extended_class, same_trans}
use Rattle.flood.proofs.Floods.{spread_none, spread_one, spread_join, spread_same}
use Rattle.flood.proofs.Queue.spread_part.Goals as goal

pub loop-i-init : goal.loop-i-init
loop-i-init c = (omega arith, (refl, refl), spread_none _ (rw c.requires.0 at c.args.self.now.queue))

pub enter_link-requires : goal.enter_link-requires
enter_link-requires c =
    let p = c.requires in
    (omega arith, omega arith, p.2, p.3 c.loop-i.i (omega arith) (between_yes _ _ _ (omega arith) (omega arith)), omega arith)

pub loop-i-preserved : goal.loop-i-preserved
loop-i-preserved c =
    let p = c.requires in
    let (_, same, S) = c.loop-i.invariant in
    let e = extended_class S.on p.2 p.4 in
    let inside = p.3 c.loop-i.i (omega arith) (between_yes _ _ _ (omega arith) (omega arith)) in
    let one = spread_one S.on.queue (omega arith) inside (rw e p.4) (rw e p.5) c.enter_link.ensures.1 c.enter_link.ensures.2 in
    (omega arith, same_trans same c.enter_link.ensures.0, spread_join p.2 p.4 (λ j h. between_next c.args.from c.loop-i.i j (omega arith)) S one)

pub returns : goal.returns
returns c =
    let a = c.args in
    let (l, same, S) = c.loop-i.invariant in
    (same, spread_same (λ j h. between_end a.from a.to c.loop-i.i j (omega arith) l) S)
