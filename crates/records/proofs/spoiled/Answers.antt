-- `records::spoiled` meets its contract. Assumes nothing.
use Rattle.records.proofs.Lefts.{spoiled_left}
use Rattle.records.proofs.spoiled.Goals as goal

pub returns : goal.returns
returns c =
    spoiled_left _ _ _ _ _ _ _ _ c.steps_of-place.ensures c.blank.ensures
    c.refused.ensures
