-- `walk::dart_of` meets its contract: the entry behind the darts' numbers. Assumes nothing.
use Prim.Native.Nat.{◌+◌}
use native.Mathlib.Omega.{arith}
use Rattle.rules.specs.Map.{mark}
use Rattle.rules.proofs.Lists.{get_d_any}
use Rattle.walk.proofs.dart_of.Goals as goal

pub returns : goal.returns
returns c = let a = c.args in get_d_any a.work.now (a.darts + a.b.0) 0 mark (omega arith)
