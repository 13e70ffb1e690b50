-- `symbols::Hand::then` meets its contract: the other hand's number is moved down behind this one's bits. Assumes nothing.
use mathlib.Core.Path.{refl}
use Rattle.symbols.proofs.Hands.{joining}
use Rattle.symbols.proofs.Hand.then.Goals as goal

pub returns : goal.returns
returns c = λ page f g. joining f g _ c.requires.0 refl refl refl
