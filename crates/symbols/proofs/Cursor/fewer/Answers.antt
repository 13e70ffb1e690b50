-- `symbols::Cursor::fewer` meets its contract: the value loses its first bits. Assumes nothing.
use Prim.Native.Nat.{ℕ, ◌-◌, ◌%◌}
use mathlib.Core.Path.{refl, ap}
use native.Mathlib.Omega.{arith}
use Rattle.symbols.proofs.Cursors.{weight, past_some}
use Rattle.symbols.proofs.Cursor.fewer.Goals as goal

pub returns : goal.returns
returns c =
    λ page f.
    let a = c.args in
    let w = weight (a.self.waiting - a.bits) (omega arith) in
    past_some f a.bits _ c.requires.0 refl (ap (λ (y : ℕ). a.self.value % y) w) refl refl
