-- `listing::put_links` meets its contract: the links of the ranks gone over are there. Assumes nothing.
use mathlib.Core.Path.{◌≡◌}
use lib.ListN.{length}
use Rattle.rules.specs.Map.{by_dart, link}
use Rattle.words.specs.Words.{spaced}
use Rattle.words.proofs.Laws.{Row}
use Rattle.listing.proofs.put_links.Given as goal

abbrev pub invariant-loop-i : goal.invariant-loop-i
invariant-loop-i l = (length l.out ≡ length l.initial.out)
    × Row l.initial.out l.at 21 (λ k. spaced (link by_dart l.map.dim l.map.darts l.map.tables.now k l.d)) l.out l.end l.i
