-- `pen::Sheet::store` meets its contract: before the page, within it or past it. Assumes nothing.
use mathlib.Core.Path.{refl}
use Rattle.pen.proofs.Laws.{stored_before, stored_within, stored_past}
use Rattle.pen.proofs.Sheet.store.Goals as goal

pub returns-then-self : goal.returns-then-self
returns-then-self c = rw (← stored_before _ _ c.args.byte _ c.if-self.true) refl

pub returns-then-i-self : goal.returns-then-i-self
returns-then-i-self c = rw (← stored_within _ _ c.args.byte c.args.self.now.out.now c.if-self.false) refl

pub returns-else-i-self : goal.returns-else-i-self
returns-else-i-self c = rw (← stored_past _ _ c.args.byte _ c.if-self.false c.if-i-self.false) refl
