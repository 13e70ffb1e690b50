-- `listing::put_counts` meets its contract: the counts of the ranks gone over are there. Assumes nothing.
use Prim.Native.Nat.{◌+◌}
use mathlib.Core.Path.{refl, ap, ◌∙◌}
use native.Mathlib.Omega.{arith}
use lib.ListN.{length-take}
use Rattle.std.proofs.lemmas.List.{get_or-take}
use Rattle.words.specs.Words.{spaced}
use Rattle.words.proofs.Laws.{row_none, row_next}
use Rattle.listing.proofs.put_counts.Goals as goal

pub loop-n-init : goal.loop-n-init
loop-n-init c = (refl, row_none _ _ _ _)

pub loop-n-preserved : goal.loop-n-preserved
loop-n-preserved c =
    let a = c.args in
    let w = c.put_spaced-end.ensures in
    let e = get_or-take (a.dim + 1) a.cells c.loop-n.n-index 0 (omega (arith, length-take (a.dim + 1) a.cells)) in
    (w.text_put.room ∙ c.loop-n.invariant.0, row_next c.loop-n.invariant.1 w.text_put w.upper_bound (ap spaced (c.from.ensures ∙ e)))
