-- `fitness::positions_are` meets its contract: the library's test of each of the first positions. Assumes nothing.
use mathlib.Core.Path.{◌∙◌}
use native.Mathlib.Omega.{arith}
use lib.Dec.{eqb}
use lib.ListN.{take}
use Rattle.std.proofs.Common.{rules, tests}
use Rattle.std.proofs.lemmas.Iterator.{YieldsList-from_slice}
use Rattle.std.proofs.lemmas.Iterator.Search.{all_from_yields_List}
use Rattle.fitness.specs.Parts.{is_at}
use Rattle.fitness.proofs.Laws.{list_all_below}
use Rattle.fitness.proofs.positions_are.Goals as goal

pub returns : goal.returns
unfolding is_at
returns c =
    let a = c.args in
    all_from_yields_List (λ p. eqb p a.x) _ _ _ c.all.ensures.ran (YieldsList-from_slice (take a.k a.positions) cc) (λ x b q k. search (rules, tests))
    ∙ list_all_below (λ p. eqb p a.x) a.positions a.k (omega arith)
