-- `flood::Queue::enter` meets its contract: the queue is one afterwards too, since the class is 0 or 1. Assumes nothing.
use mathlib.Core.Path.{refl}
use Rattle.flood.proofs.Queues.{entry}
use Rattle.flood.proofs.Queue.enter.Goals as goal

pub invariant_of-self : goal.invariant_of-self
invariant_of-self c =
    let (tail, room) = c.enter-self.ensures in
    record { queue = rw (tail, room) (entry c.args.self.now.queue c.requires.0 c.requires.1).on.queue }

pub returns : goal.returns
returns c = ((refl, refl), c.enter-self.ensures.0, c.enter-self.ensures.1)
