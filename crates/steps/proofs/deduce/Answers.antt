-- `steps::deduce` meets its contract: what is left of the search from rank i on is the whole search. Assumes nothing.
use native.Mathlib.Omega.{arith}
use Rattle.steps.proofs.Partners.{deducing_end, deducing_here, deducing_next}
use Rattle.steps.proofs.deduce.Goals as goal

pub returns-then-f : goal.returns-then-f
returns-then-f c =
    let d = c.loop-i.invariant in
    deducing_here d (omega arith) c.known_link-c.ensures c.known_link-f.ensures c.if-f.true c.known_link.ensures

pub loop-i-preserved : goal.loop-i-preserved
loop-i-preserved c = deducing_next c.loop-i.invariant (omega arith) c.known_link-c.ensures c.known_link-f.ensures c.if-f.false

pub returns : goal.returns
returns c = deducing_end c.loop-i.invariant (omega arith)
