-- `steps::deduce` meets its contract: what is left of the search from rank i on is the whole search. Assumes nothing.
use Rattle.steps.proofs.Partners.{Deducing}
use Rattle.steps.proofs.deduce.Given as goal

abbrev pub invariant-loop-i : goal.invariant-loop-i
invariant-loop-i l = Deducing l.map.dim l.map.darts l.map.tables.now l.j l.b.0 l.i
