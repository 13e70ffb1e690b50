-- `writer::first_bits` meets its contract, form by form. Assumes nothing.
use Rattle.rules.specs.Bodies.{first_bits}
use Rattle.writer.proofs.first_bits.Goals as goal

pub returns-in-One : goal.returns-in-One
unfolding first_bits
returns-in-One c = rw c.in-One.is

pub returns-in-Several : goal.returns-in-Several
unfolding first_bits
returns-in-Several c = rw c.in-Several.is
