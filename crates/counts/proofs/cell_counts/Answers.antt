-- `counts::cell_counts` meets its contract: after i turns the counts of the ranks below i are there, and the others are 0;
-- that of rank N comes last. Assumes nothing.
use mathlib.Core.Path.{◌≡◌, refl}
use native.Mathlib.Omega.{arith}
use Rattle.counts.proofs.Counts.{tallied_next, tallied_end}
use Rattle.counts.proofs.cell_counts.Goals as goal

pub returns : goal.returns
returns c =
    let z : c.loop-i.i ≡ c.args.valid.now.map.dim = omega arith in
    (tallied_end (tallied_next (rw z at c.loop-i.invariant.0) _ (omega arith) c.requires.1) refl, c.loop-i.invariant.1)
