-- `steps::by_symbol` meets its contract: each symbol's step, with 13. Assumes nothing.
use Rattle.steps.proofs.Steps.{symbol_border, symbol_new, symbol_13}
use Rattle.steps.proofs.by_symbol.Goals as goal

pub returns-in-Border : goal.returns-in-Border
returns-in-Border c = rw c.in-Border.is (symbol_border c.requires _ _ c.tied.ensures)

pub returns-then-dart_left : goal.returns-then-dart_left
returns-then-dart_left c = rw c.in-New.is (symbol_new c.requires _ c.dart_left.ensures c.if-dart_left.true _ _ c.tied-then-dart_left.ensures)

pub returns-else-dart_left : goal.returns-else-dart_left
returns-else-dart_left c = rw c.in-New.is (symbol_13 c.requires _ c.dart_left.ensures c.if-dart_left.false)
