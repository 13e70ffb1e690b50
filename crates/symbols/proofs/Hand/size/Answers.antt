-- `symbols::Hand::size` meets its contract: by the first two bits. Assumes nothing.
use mathlib.Core.Path.{sym}
use Rattle.symbols.proofs.BitLists.{number_new, number_border, number_index}
use Rattle.symbols.proofs.Hand.size.Goals as goal

pub returns-then-head-lt8388608 : goal.returns-then-head-lt8388608
returns-then-head-lt8388608 c = sym (number_new _ c.if-head-lt8388608.true)

pub returns-then-head-lt12582912 : goal.returns-then-head-lt12582912
returns-then-head-lt12582912 c = sym (number_border _ c.if-head-lt8388608.false c.if-head-lt12582912.true)

pub returns : goal.returns
returns c = sym (number_index _ c.if-head-lt12582912.false)
