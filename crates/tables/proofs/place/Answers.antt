-- `tables::place` meets its contract: the product and the sum fit, and are the definition's. Assumes nothing.
use Prim.Native.Nat.{◌+◌, ◌*◌, ◌≤◌}
use native.Mathlib.Omega.{arith}
use native.Mathlib.Nat.{mul-le-mul}
use native.Mathlib.Numerals.{add-one}
use Rattle.rules.specs.Map.{place}
use Rattle.tables.proofs.place.Goals as goal

small : (c : goal.Start) → c.args.dart * (c.args.dim + 1) ≤ 4096 * 7
small c = mul-le-mul {n₁ = c.args.dart} {m₁ = c.args.dim + 1} {n₂ = 4096} {m₂ = 7} (omega arith) (omega arith)

pub overflow_add-result : goal.overflow_add-result
overflow_add-result c = omega arith

pub overflow_mul-result : goal.overflow_mul-result
overflow_mul-result c = omega (arith, small c)

pub overflow_add-result-2 : goal.overflow_add-result-2
overflow_add-result-2 c = omega (arith, small c)

pub returns : goal.returns
unfolding place
returns c = rw add-one
