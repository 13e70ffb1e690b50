-- `runs::asked` meets its contract: the step by the symbol that was taken, or bits ran out. Assumes nothing.
use mathlib.Core.Path.{refl}
use Rattle.runs.proofs.Turns.{turn_short, symbol_fits, turn_symbol, turn_refused}
use Rattle.runs.proofs.asked.Goals as goal

pub returns-in_err-taken : goal.returns-in_err-taken
returns-in_err-taken c = turn_short c.args.bits c.requires.0 c.requires.1 _ c.take_symbol.ensures _ c.in_err-taken.was _ c.from_residual.ensures.1

pub invariant_of-left : goal.invariant_of-left
invariant_of-left c = record { fits = symbol_fits c.args.bits c.requires.0 c.requires.1 _ c.take_symbol.ensures _ c.in_ok-taken.was }

pub returns-in_err-next : goal.returns-in_err-next
returns-in_err-next c =
    turn_refused c.args.bits c.requires.0 c.requires.1 _ c.take_symbol.ensures _ c.in_ok-taken.was _ _ c.in_err-next.was _ _ c.by_symbol.ensures
    _ c.from_residual-in_err-next.ensures.1

pub returns : goal.returns
returns c =
    turn_symbol c.args.bits c.requires.0 c.requires.1 _ c.take_symbol.ensures _ c.in_ok-taken.was _ _ c.in_ok-next.was _ _ c.by_symbol.ensures _ refl refl
