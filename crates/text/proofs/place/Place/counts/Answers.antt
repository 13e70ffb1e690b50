-- `text::Place::counts` meets its contract. Assumes nothing.
use mathlib.Core.Path.{refl}
use Rattle.text.specs.Leaves.{counts}
use Rattle.text.proofs.Readings.{exit, next_err, next_ok}
use Rattle.text.proofs.place.Place.counts.Goals as goal

pub returns-in_err-vertices-clause-reading : goal.returns-in_err-vertices-clause-reading
unfolding counts
returns-in_err-vertices-clause-reading c = exit _ c.from_residual.ensures.1 (next_err _ _ _ c.in_err-vertices.ensures.reading)

pub returns-in_err-faces-clause-reading : goal.returns-in_err-faces-clause-reading
unfolding counts
returns-in_err-faces-clause-reading c =
    exit _ c.from_residual-in_err-faces.ensures.1
    (next_ok _ _ _ _ _ c.in_ok-vertices.ensures.reading
    (next_err _ _ _ (rw c.in_ok-vertices.ensures.text at c.in_err-faces.ensures.reading)))

pub returns-in_err-edges-clause-reading : goal.returns-in_err-edges-clause-reading
unfolding counts
returns-in_err-edges-clause-reading c =
    exit _ c.from_residual-in_err-edges.ensures.1
    (next_ok _ _ _ _ _ c.in_ok-vertices.ensures.reading
    (next_ok _ _ _ _ _ (rw c.in_ok-vertices.ensures.text at c.in_ok-faces.ensures.reading)
    (next_err _ _ _ (rw (c.in_ok-faces.ensures.text, c.in_ok-vertices.ensures.text) at c.in_err-edges.ensures.reading))))

pub returns-clause-reading : goal.returns-clause-reading
unfolding counts
returns-clause-reading c =
    next_ok _ _ _ _ _ c.in_ok-vertices.ensures.reading
    (next_ok _ _ _ _ _ (rw c.in_ok-vertices.ensures.text at c.in_ok-faces.ensures.reading)
    (next_ok _ _ _ _ _ (rw (c.in_ok-faces.ensures.text, c.in_ok-vertices.ensures.text) at c.in_ok-edges.ensures.reading) refl))
