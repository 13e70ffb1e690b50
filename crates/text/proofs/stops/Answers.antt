-- `text::stops` meets its contract. Assumes nothing.
use mathlib.Core.Path.{sym}
use borrow.Author.Tests.{lt-leb, eq-eqb, ne_eqb}
use Rattle.text.specs.Leaves.{stop}
use Rattle.text.proofs.Laws.{no_stop}
use Rattle.text.proofs.stops.Goals as goal

pub returns-then-b-eq35 : goal.returns-then-b-eq35
unfolding stop
returns-then-b-eq35 c = rw (eq-eqb _ 35 c.if-b-eq35.true)

pub returns-else-b-eq35 : goal.returns-else-b-eq35
unfolding stop
returns-else-b-eq35 c = rw (ne_eqb _ 35 c.if-b-eq35.false) c.is_blank.ensures

pub returns-else-b-le35 : goal.returns-else-b-le35
returns-else-b-le35 c = rw (lt-leb _ 35 c.if-b-le35.false) (sym (no_stop _ c.if-b-le35.false))
