-- `reader::form_of` meets its contract: below 8 it is the one-body form. Assumes nothing.
use borrow.Author.Tests.{lt-ltb, le-ltb}
use Rattle.rules.specs.Bodies.{form_of}
use Rattle.reader.proofs.form_of.Goals as goal

pub returns-then-bits-lt8 : goal.returns-then-bits-lt8
unfolding form_of
returns-then-bits-lt8 c = rw (lt-ltb _ _ c.if-bits-lt8.true)

pub returns : goal.returns
unfolding form_of
returns c = rw (le-ltb _ _ c.if-bits-lt8.false)
