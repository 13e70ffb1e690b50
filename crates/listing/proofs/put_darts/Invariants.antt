-- `listing::put_darts` meets its contract: the lines of the darts gone over are there. Assumes nothing.
use mathlib.Core.Path.{◌≡◌}
use lib.ListN.{length}
use Rattle.listing.specs.Listing.{dart_line}
use Rattle.words.proofs.Laws.{Row}
use Rattle.listing.proofs.put_darts.Given as goal

abbrev pub invariant-loop-d : goal.invariant-loop-d
invariant-loop-d l = (length l.out ≡ length l.initial.out) × Row l.initial.out l.at 168 (dart_line l.map.dim l.map.darts l.map.tables.now) l.out l.end l.d
