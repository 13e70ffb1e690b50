-- `lent::close` meets its contract: what the call by value leaves is what is written back. Assumes nothing.
use Rattle.records.specs.Lefts.{left_by}
use Rattle.lent.proofs.close.Goals as goal

pub returns : goal.returns
unfolding left_by
returns c = c.close-p.ensures
