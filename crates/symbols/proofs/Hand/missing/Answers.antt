-- `symbols::Hand::missing` meets its contract: the size less the bits at hand. Assumes nothing.
use native.Mathlib.Omega.{arith}
use Rattle.rules.specs.Stream.{bits_of}
use Rattle.symbols.proofs.BitLists.{size_range}
use Rattle.symbols.proofs.Hand.missing.Goals as goal

pub overflow_cast-result : goal.overflow_cast-result
overflow_cast-result c = omega (arith, c.size.ensures, (size_range (bits_of 24 c.args.self.head)).1)
