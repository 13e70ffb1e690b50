-- `symbols::Cursor::waits` meets its contract: the value is moved up to the first of 24 bits. Assumes nothing.
use mathlib.Core.Path.{refl}
use Rattle.symbols.proofs.Hands.{holding_waits}
use Rattle.symbols.proofs.Cursor.waits.Goals as goal

pub returns : goal.returns
returns c = λ page f. holding_waits f _ refl refl refl
