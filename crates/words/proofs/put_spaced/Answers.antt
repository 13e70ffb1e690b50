-- `words::put_spaced` meets its contract: one text after the other. Assumes nothing.
use Rattle.words.specs.Words.{spaced}
use Rattle.words.proofs.Laws.{wrote_then}
use Rattle.words.proofs.put_spaced.Goals as goal

pub returns-clause-text_put : goal.returns-clause-text_put
unfolding spaced
returns-clause-text_put c = wrote_then c.put-end.ensures c.put_number.ensures.text_put
