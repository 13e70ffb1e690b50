-- `text::Place::number` meets its contract. Assumes nothing.
use mathlib.Core.Path.{◌∙◌}
use Rattle.text.proofs.Readings.{number_none, number_some, word_inside}
use Rattle.text.proofs.place.Place.number.Goals as goal

pub returns-then-self-w-clause-reading : goal.returns-then-self-w-clause-reading
returns-then-self-w-clause-reading c = number_none _ _ _ c.word_from-w.ensures.place c.if-self-w.true

pub numeral-requires : goal.numeral-requires
numeral-requires c = rw c.word_from-w.ensures.text (word_inside _ _ _ c.word_from-w.ensures.place c.if-self-w.false)

pub returns-clause-reading : goal.returns-clause-reading
returns-clause-reading c =
    c.numeral.ensures.reading ∙ rw c.word_from-w.ensures.text (number_some _ _ _ c.word_from-w.ensures.place c.if-self-w.false)
