-- `symbols::Cursor::here` meets its contract: the cursor's byte is loaded into a hand that holds nothing. Assumes nothing.
use native.Mathlib.Omega.{arith}
use Rattle.symbols.proofs.Hands.{none_fits}
use Rattle.symbols.proofs.Cursor.here.Goals as goal

pub loaded-requires : goal.loaded-requires
loaded-requires c = let p = c.requires in rw c.none.ensures (none_fits _ _ (omega arith), omega arith, p.0, p.1)
