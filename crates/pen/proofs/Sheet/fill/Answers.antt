-- `pen::Sheet::fill` meets its contract: zero bits make the last byte whole, or it is whole. Assumes nothing.
use Prim.Native.Nat.{◌-◌}
use native.Mathlib.Omega.{arith}
use lib.Pow.{pow_pos}
use Rattle.pen.proofs.Laws.{fill_more, fill_none, byte_small}
use Rattle.pen.proofs.Sheet.fill.Goals as goal

pub overflow_cast-self : goal.overflow_cast-self
overflow_cast-self c =
    let p = c.args.self.now.pen in
    omega (arith, byte_small c.requires (8 - p.bits) 0 (omega arith) (pow_pos (8 - p.bits)))

pub returns-then-self-gt0-clause-filled : goal.returns-then-self-gt0-clause-filled
returns-then-self-gt0-clause-filled c = rw c.store.ensures (λ bs out0 h. fill_more h c.requires (omega arith))

pub returns-else-self-gt0-clause-filled : goal.returns-else-self-gt0-clause-filled
returns-else-self-gt0-clause-filled c = λ bs out0 h. fill_none h (omega arith)
