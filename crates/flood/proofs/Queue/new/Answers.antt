-- `flood::Queue::new` meets its contract: where nothing is marked the queue is empty. Assumes nothing.
use Rattle.flood.proofs.Queues.{queue_blanked}
use Rattle.flood.proofs.Queue.new.Goals as goal

pub invariant_of-result : goal.invariant_of-result
invariant_of-result c = record { queue = queue_blanked _ _ _ c.requires c.blank.ensures }
