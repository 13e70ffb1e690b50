-- `sides::key` meets its contract. Assumes nothing.
use borrow.Author.Tests.{lt-ltb, le-ltb}
use Rattle.sides.specs.Sides.{key_of}
use Rattle.sides.proofs.key.Goals as goal

pub returns-then-v-u : goal.returns-then-v-u
unfolding key_of
returns-then-v-u c = rw (lt-ltb _ _ c.if-v-u.true)

pub returns : goal.returns
unfolding key_of
returns c = rw (le-ltb _ _ c.if-v-u.false)
