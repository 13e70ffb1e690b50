-- `text::is_blank` meets its contract. Assumes nothing.
use Rattle.std.proofs.Common.{rules}
use Rattle.shapes.specs.Text.{is_blank}
use Rattle.text.proofs.is_blank.Goals as goal

pub returns-then-b-eq13 : goal.returns-then-b-eq13
unfolding is_blank
returns-then-b-eq13 c = search rules

pub returns-else-b-eq13 : goal.returns-else-b-eq13
unfolding is_blank
returns-else-b-eq13 c = search rules
