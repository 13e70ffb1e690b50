-- `tables::blank` meets its contract: the entries that are filled, then the rest as they were. Assumes nothing.
use Prim.Native.Nat.{◌-◌}
use mathlib.Core.Path.{◌≡◌}
use native.Mathlib.Omega.{arith}
use Rattle.std.proofs.Common.{length-take-le}
use Rattle.rules.specs.Map.{blank}
use Rattle.tables.proofs.blank.Goals as goal

pub returns : goal.returns
unfolding blank
returns c =
    let a = c.args in
    let z : a.count - 0 ≡ a.count = omega arith in
    rw (c.fill.ensures.after (λ y e. e), z, length-take-le a.count a.room.now c.requires)
