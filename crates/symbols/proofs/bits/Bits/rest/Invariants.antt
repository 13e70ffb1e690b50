-- `symbols::Bits::rest` meets its contract: the hand holds the first of the bits at hand, and at the page's end all. Assumes nothing.
use Prim.Native.Nat.{◌-◌}
use lib.ListN.{length}
use Rattle.symbols.specs.Hands.{InHand}
use Rattle.symbols.proofs.bits.Bits.rest.Given as goal

abbrev pub invariant-loop-hand : goal.invariant-loop-hand
invariant-loop-hand l = InHand l.fn.self.cursor l.hand l.page

abbrev pub decreases-loop-hand : goal.decreases-loop-hand
decreases-loop-hand l = length l.page - l.hand.at
