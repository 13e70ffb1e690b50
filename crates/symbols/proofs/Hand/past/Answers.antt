-- `symbols::Hand::past` meets its contract: the bits left over are those before where the hand stands. Assumes nothing.
use mathlib.Core.Path.{refl}
use Rattle.symbols.proofs.Cursors.{past_hand}
use Rattle.symbols.proofs.Hand.past.Goals as goal

pub returns : goal.returns
returns c =
    λ d page r w.
    let p = c.requires in
    past_hand r c.args.bits _ w p.0 p.1 p.3 refl refl refl refl
