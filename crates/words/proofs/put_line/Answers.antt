-- `words::put_line` meets its contract: one text after the other. Assumes nothing.
use mathlib.Core.List.{append_assoc}
use Rattle.words.specs.Words.{spaced, line_end}
use Rattle.words.proofs.Laws.{wrote_then, wrote_same}
use Rattle.words.proofs.put_line.Goals as goal

pub returns-clause-text_put : goal.returns-clause-text_put
returns-clause-text_put c =
    let a = c.args in
    wrote_same (wrote_then c.put_named-end.ensures.text_put c.put.ensures) (append_assoc a.word.now (spaced a.n) line_end)
