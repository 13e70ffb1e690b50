-- `listing::put_links` meets its contract: the links of the ranks gone over are there. Assumes nothing.
use Prim.Native.Nat.{suc, ◌+◌}
use mathlib.Core.Path.{refl, ap, ◌∙◌}
use native.Mathlib.Omega.{arith}
use Rattle.listing.specs.Listing.{links}
use Rattle.words.specs.Words.{spaced}
use Rattle.words.proofs.Laws.{Row, row_none, row_next, row_end}
use Rattle.rules.specs.Map.{by_dart, link}
use Rattle.listing.proofs.put_links.Goals as goal
use Rattle.listing.proofs.put_links.Goals.{After-put_spaced-end}

pub loop-i-init : goal.loop-i-init
loop-i-init c = (refl, row_none _ _ _ _)

pub link-requires : goal.link-requires
link-requires c = (omega arith)

pub put_spaced-end-requires : goal.put_spaced-end-requires
put_spaced-end-requires c = omega (arith, c.loop-i.invariant.1.short, c.args.map.now.limits.dims.1)

-- one more link is there
next : (c : After-put_spaced-end) → let a = c.args in
    Row a.out.now a.at 21 (λ k. spaced (link by_dart a.map.now.dim a.map.now.darts a.map.now.tables.now k a.d)) c.put_spaced-end.new.out c.put_spaced-end.result (c.loop-i.i + 1)
next c = let w = c.put_spaced-end.ensures in row_next c.loop-i.invariant.1 w.text_put w.upper_bound (ap spaced (c.from.ensures ∙ c.link.ensures))

pub loop-i-preserved : goal.loop-i-preserved
loop-i-preserved c = (c.put_spaced-end.ensures.text_put.room ∙ c.loop-i.invariant.0, next (goal.at.loop-i-preserved c).After-put_spaced-end)

pub returns-2 : goal.returns-2
unfolding links
returns-2 c =
    let w = row_end (next (goal.at.returns-2 c).After-put_spaced-end) (suc c.args.map.now.dim) (omega arith) in
    record { text_put = w.0; upper_bound = omega (arith, w.1, c.args.map.now.limits.dims.1) }

pub returns : goal.returns
unfolding links
returns c =
    let w = row_end c.loop-i.invariant.1 (suc c.args.map.now.dim) (omega arith) in
    record { text_put = w.0; upper_bound = omega (arith, w.1, c.args.map.now.limits.dims.1) }
