-- `words::put` meets its contract: the library's copy. Assumes nothing.
use Rattle.words.proofs.Laws.{wrote_word}
use Rattle.words.proofs.put.Goals as goal

pub returns : goal.returns
returns c = wrote_word _ _ _ _ c.copy_from_slice.ensures.after c.requires
