-- `walk::number_of` meets its contract: the entry of a dart. Assumes nothing.
use Rattle.walk.proofs.Laws.{entry_number}
use Rattle.walk.proofs.number_of.Goals as goal

pub returns : goal.returns
returns c = entry_number _ _ _ c.requires.0 c.requires.1
