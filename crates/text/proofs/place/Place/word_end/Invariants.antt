-- `text::Place::word_end` meets its contract: all up to p is of the word. Assumes nothing.
use Prim.Native.Nat.{◌≤◌, max}
use lib.ListN.{length}
use Rattle.text.proofs.Laws.{Ending}
use Rattle.text.proofs.place.Place.word_end.Given as goal

abbrev pub invariant-loop-p : goal.invariant-loop-p
invariant-loop-p l = Ending l.text l.self.at l.p × (l.p ≤ max l.self.at (length l.text))
