-- `report::span_rest` meets its contract: each turn marks one body more, until every dart has a mark. Assumes nothing.
use mathlib.Core.Path.{◌∙◌}
use native.Mathlib.Omega.{arith}
use Rattle.report.proofs.span_rest.Goals as goal

pub next_body-s-requires : goal.next_body-s-requires
next_body-s-requires c =
    let (stays, S) = c.loop-queue.invariant in
    let z = stays.0.0 ∙ c.requires.0 in
    (z, rw z at c.loop-queue-test.true, S)

pub loop-queue-smaller : goal.loop-queue-smaller
loop-queue-smaller c = let (_, later, S) = c.next_body-s.ensures in omega (arith, later, S.within)

pub returns : goal.returns
returns c =
    let (stays, S) = c.loop-queue.invariant in
    let z = stays.0.0 ∙ c.requires.0 in
    (stays, S, rw z at c.loop-queue-test.false)
