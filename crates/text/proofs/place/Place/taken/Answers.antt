-- `text::Place::taken` meets its contract. Assumes nothing.
use mathlib.Core.Path.{ap}
use Rattle.text.specs.Leaves.{known_of}
use Rattle.text.proofs.Readings.{bad_fresh}
use Rattle.text.proofs.place.Place.taken.Goals as goal

pub invariant_of-result : goal.invariant_of-result
invariant_of-result c = record { fresh = bad_fresh _ _ _ c.in-Err.ensures.reading }

pub returns-in-Err-clause-number : goal.returns-in-Err-clause-number
unfolding known_of
returns-in-Err-clause-number c = ap known_of c.in-Err.ensures.reading

pub returns-in-Ok-clause-number : goal.returns-in-Ok-clause-number
unfolding known_of
returns-in-Ok-clause-number c = ap known_of c.in-Ok.ensures.reading
