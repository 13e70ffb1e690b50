-- `words::put_pair` meets its contract: one text after the other. Assumes nothing.
use mathlib.Core.List.{append_assoc}
use Rattle.words.specs.Words.{spaced}
use Rattle.words.proofs.Laws.{wrote_then, wrote_same}
use Rattle.words.proofs.put_pair.Goals as goal

pub returns-clause-text_put : goal.returns-clause-text_put
returns-clause-text_put c =
    let a = c.args in
    wrote_same (wrote_then c.put_named-first.ensures.text_put c.put_line.ensures.text_put) (append_assoc a.word.now (spaced a.n) _)
