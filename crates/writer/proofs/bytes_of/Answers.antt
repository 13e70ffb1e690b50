-- `writer::bytes_of` meets its contract: the whole bytes, and one more for bits after them. Assumes nothing.
use native.Mathlib.Omega.{arith}
use Rattle.writer.proofs.Writes.{bits_length}
use Rattle.writer.proofs.bytes_of.Goals as goal

pub returns-then-pen-gt0 : goal.returns-then-pen-gt0
returns-then-pen-gt0 c = λ bs a b. (bits_length bs a b).0 c.if-pen-gt0.true

pub returns : goal.returns
returns c = λ bs a b. (bits_length bs a b).1 (omega arith)
