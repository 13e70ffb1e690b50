-- `reader::page_complete` meets its contract: no byte, or 18. Assumes nothing.
use Rattle.rules.specs.Refusals.{number_of}
use Rattle.reader.proofs.Laws.{complete_none, complete_more}
use Rattle.reader.proofs.page_complete.Goals as goal

pub returns-then-page-eq0 : goal.returns-then-page-eq0
returns-then-page-eq0 c = complete_none _ c.args.s _ _ c.if-page-eq0.true c.held.ensures.0 c.held.ensures.1

pub returns : goal.returns
unfolding number_of
returns c = complete_more _ c.args.s _ _ _ c.if-page-eq0.false c.spoiled.ensures
