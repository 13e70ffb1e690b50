-- `listing::put_darts` meets its contract: the lines of the darts gone over are there. Assumes nothing.
use mathlib.Core.Path.{refl, ◌∙◌}
use native.Mathlib.Omega.{arith}
use Rattle.listing.specs.Listing.{dart_lines}
use Rattle.words.proofs.Laws.{row_none, row_next, row_end}
use Rattle.listing.proofs.put_darts.Goals as goal

pub loop-d-init : goal.loop-d-init
loop-d-init c = (refl, row_none _ _ _ _)

pub overflow_cast-d-end : goal.overflow_cast-d-end
overflow_cast-d-end c = omega (arith, c.args.map.now.limits.darts.1)

pub put_dart-end-requires : goal.put_dart-end-requires
put_dart-end-requires c = (omega (arith, c.loop-d.invariant.1.short))

pub loop-d-preserved : goal.loop-d-preserved
loop-d-preserved c =
    let w = c.put_dart-end.ensures in
    (w.text_put.room ∙ c.loop-d.invariant.0, row_next c.loop-d.invariant.1 w.text_put w.upper_bound refl)

pub returns : goal.returns
unfolding dart_lines
returns c =
    let w = row_end c.loop-d.invariant.1 c.args.map.now.darts (omega arith) in
    record { text_put = w.0; upper_bound = w.1 }
