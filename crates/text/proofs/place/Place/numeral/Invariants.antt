-- `text::Place::numeral` meets its contract: the digits up to p write v, and the word goes on there. Assumes nothing.
use Rattle.text.proofs.Numerals.{Counting}
use Rattle.text.proofs.place.Place.numeral.Given as goal

abbrev pub invariant-loop-p : goal.invariant-loop-p
invariant-loop-p l = Counting l.text l.w l.p l.v
