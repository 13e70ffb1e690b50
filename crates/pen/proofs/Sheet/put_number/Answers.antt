-- `pen::Sheet::put_number` meets its contract: the bits before the last eight, then those. Assumes nothing.
use native.Mathlib.Omega.{arith}
use borrow.Author.Rules.{rules}
use Rattle.pen.proofs.Laws.{upper_small, number_fits, put_halves}
use Rattle.pen.proofs.Sheet.put_number.Goals as goal

pub put_few-requires : goal.put_few-requires
put_few-requires c = (search rules, omega arith, upper_small _ _ c.requires.1 c.requires.3)

pub put_few-requires-2 : goal.put_few-requires-2
put_few-requires-2 c = (number_fits _ _ c.requires.1 c.requires.3 c.put_few.ensures c.requires.0, omega arith, omega arith)

pub returns : goal.returns
returns c = put_halves _ _ c.requires.1 c.requires.3 c.put_few.ensures c.put_few-2.ensures
