-- `flood::Queue::enter_link` meets its contract: the queue is one afterwards too, since the class is 0 or 1. Assumes nothing.
use Rattle.flood.proofs.Queues.{entry}
use Rattle.flood.proofs.Queue.enter_link.Goals as goal

pub invariant_of-self : goal.invariant_of-self
invariant_of-self c =
    let (z, _, _, inside, small) = c.requires in
    let (tail, room) = c.enter_link-self.ensures in
    record { queue = rw (z, tail, room) (entry (rw z at c.args.self.now.queue) inside small).on.queue }
