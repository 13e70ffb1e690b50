-- `pen::Sheet::put_few` meets its contract: within a byte, or the byte is whole. Assumes nothing.
use native.Mathlib.Omega.{arith}
use Rattle.pen.proofs.Laws.{few_within, whole_small, few_over}
use Rattle.pen.proofs.Sheet.put_few.Goals as goal

pub returns-then-bits-lt8 : goal.returns-then-bits-lt8
returns-then-bits-lt8 c = few_within _ c.requires.0 _ _ c.requires.1 c.requires.2 c.if-bits-lt8.true

pub overflow_cast-self : goal.overflow_cast-self
overflow_cast-self c = omega (arith, whole_small c.requires.0 _ _ c.requires.1 c.requires.2 c.if-bits-lt8.false)

pub returns : goal.returns
returns c = few_over _ c.requires.0 _ _ c.requires.1 c.requires.2 c.if-bits-lt8.false _ c.store.ensures
