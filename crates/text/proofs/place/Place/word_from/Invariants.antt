-- `text::Place::word_from` meets its contract: all up to p is of no word, and no comment goes on at p. Assumes nothing.
use Prim.Native.Nat.{◌-◌}
use lib.ListN.{length}
use Rattle.text.proofs.Laws.{Coming}
use Rattle.text.proofs.place.Place.word_from.Given as goal

abbrev pub invariant-loop-p : goal.invariant-loop-p
invariant-loop-p l = Coming l.text l.self.at l.p

abbrev pub decreases-loop-p : goal.decreases-loop-p
decreases-loop-p l = length l.text - l.p
