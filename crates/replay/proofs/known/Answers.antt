-- `replay::known` meets its contract: the dart's own number is below the position, or its partner's. Assumes nothing.
use Rattle.replay.proofs.Laws.{known_own, known_other}
use Rattle.replay.proofs.known.Goals as goal

pub returns-then-number_of-position : goal.returns-then-number_of-position
returns-then-number_of-position c = known_own _ _ _ _ _ _ _ _ c.number_of.ensures c.if-number_of-position.true

pub returns : goal.returns
returns c =
    known_other _ _ _ _ _ _ _ _ _ _ c.number_of.ensures c.if-number_of-position.false
    c.partner_of.ensures
    c.number_of-2.ensures
