-- `text::Place::passed` meets its contract. Assumes nothing.
use Rattle.std.specs.Prelude.{◌≡◌}
use Rattle.shapes.specs.Text.{word}
use Rattle.text.proofs.Readings.{Reads}
use Rattle.text.proofs.place.Place.passed.Given as goal

abbrev pub invariant-loop : goal.invariant-loop
invariant-loop l = (l.p.text ≡ l.self.text) × Reads (word l.self.text.now) l.self.at l.count l.p.at l.counter
