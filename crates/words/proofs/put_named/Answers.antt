-- `words::put_named` meets its contract: one text after the other. Assumes nothing.
use Rattle.words.proofs.Laws.{wrote_then}
use Rattle.words.proofs.put_named.Goals as goal

pub returns-clause-text_put : goal.returns-clause-text_put
returns-clause-text_put c = wrote_then c.put-end.ensures c.put_spaced.ensures.text_put
