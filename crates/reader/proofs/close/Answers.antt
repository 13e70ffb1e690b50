-- `reader::close` meets its contract: 19, or by the state. Assumes nothing.
use mathlib.Core.Path.{sym, ◌∙◌}
use Rattle.rules.specs.Refusals.{number_of}
use Rattle.reader.proofs.Laws.{close_as_lem, close_unfit, unchanged_number}
use Rattle.reader.proofs.close.Goals as goal

pub returns-then-fit : goal.returns-then-fit
returns-then-fit c =
    let a = c.args in
    close_as_lem a.s a.tables.now _ (sym c.fit.ensures ∙ c.if-fit.true) c.close_fit.ensures

pub returns : goal.returns
unfolding number_of
returns c =
    let a = c.args in
    close_unfit a.s a.tables.now _ (sym c.fit.ensures ∙ c.if-fit.false)
    (unchanged_number _ a.s _ _ _ c.number.ensures c.unchanged.ensures.0 c.unchanged.ensures.1)
