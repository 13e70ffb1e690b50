-- `records::set_from` meets its contract: the remainder by the weight of the bit before. Assumes nothing.
use mathlib.Core.Path.{refl}
use native.Mathlib.Omega.{arith}
use Rattle.records.proofs.Fills.{set_bits}
use Rattle.records.proofs.set_from.Goals as goal

pub returns : goal.returns
returns c = set_bits _ _ _ c.requires.0 c.requires.1 (omega arith) refl
