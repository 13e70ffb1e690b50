-- `flood::enter` meets its contract: a dart that has no mark is not in the queue, so the queue has room for it. Assumes nothing.
use mathlib.Core.Path.{refl}
use native.Mathlib.Omega.{arith}
use lib.ListN.{length-set}
use borrow.Author.Tests.{eq-eqb, ne_eqb}
use Rattle.flood.specs.Flood.{entered_room, entered_tail}
use Rattle.flood.proofs.Queues.{tail_below}
use Rattle.flood.proofs.enter.Goals as goal

pub returns-then-work-d : goal.returns-then-work-d
unfolding entered_room entered_tail
returns-then-work-d c = rw (ne_eqb _ _ c.if-work-d.true) (refl, refl)

pub bounds-work-darts : goal.bounds-work-darts
bounds-work-darts c =
    let (Q, h) = c.requires in
    simp length-set (omega (arith, tail_below Q h c.if-work-d.false, Q.room))

pub returns : goal.returns
unfolding entered_room entered_tail
returns c = rw (eq-eqb _ _ c.if-work-d.false) (refl, refl)
