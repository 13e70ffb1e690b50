-- `listing::put_counts` meets its contract: the counts of the ranks gone over are there. Assumes nothing.
use mathlib.Core.Path.{◌≡◌}
use lib.ListN.{length, get_or}
use Rattle.words.specs.Words.{spaced}
use Rattle.words.proofs.Laws.{Row}
use Rattle.listing.proofs.put_counts.Given as goal

abbrev pub invariant-loop-n : goal.invariant-loop-n
invariant-loop-n l = (length l.out ≡ length l.initial.out) × Row l.initial.out l.at 21 (λ k. spaced (get_or l.fn.cells k 0)) l.out l.end l.n-index
