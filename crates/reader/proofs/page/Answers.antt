-- `reader::page` meets its contract: 19, or by the state. Assumes nothing.
use mathlib.Core.Path.{sym, ◌∙◌}
use Rattle.rules.specs.Refusals.{number_of}
use Rattle.reader.proofs.Laws.{page_called, page_refused, unchanged_number}
use Rattle.reader.proofs.page.Goals as goal

pub returns-then-fit : goal.returns-then-fit
returns-then-fit c =
    let a = c.args in
    page_called a.s a.tables.now _ _ _ (sym c.fit.ensures ∙ c.if-fit.true) c.page_fit.ensures

pub returns : goal.returns
unfolding number_of
returns c =
    let a = c.args in
    let e = c.unchanged.ensures in
    page_refused a.s a.tables.now _ _ _ (sym c.fit.ensures ∙ c.if-fit.false) _ c.asking.ensures (unchanged_number _ a.s _ _ _ c.number.ensures e.0 e.1)
