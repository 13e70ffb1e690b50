-- `Map::first_broken` meets its contract: what is left of the search over a dimension's pairs is the search from the k-th on. Assumes nothing.
use mathlib.Core.Path.{◌≡◌}
use lib.ListN.{drop}
use Rattle.rules.specs.Map.{by_dart, pairs_of, first_broken}
use Rattle.tables.proofs.map.Map.first_broken.Given as goal

abbrev pub invariant-loop-pair : goal.invariant-loop-pair
invariant-loop-pair l = first_broken by_dart l.self.dim l.self.darts l.self.tables.now (pairs_of l.self.dim)
    ≡ first_broken by_dart l.self.dim l.self.darts l.self.tables.now (drop l.pair-index (pairs_of l.self.dim))
