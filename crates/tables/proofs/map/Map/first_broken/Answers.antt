-- `Map::first_broken` meets its contract: what is left of the search over a dimension's pairs is the search from the k-th on. Assumes nothing.
use mathlib.Core.Path.{refl, sym, ◌∙◌, ap}
use native.Mathlib.Omega.{arith}
use Rattle.std.specs.Prelude.{is_some}
use Rattle.rules.proofs.Lists.{found_none, found_yes, found_no}
use Rattle.rules.proofs.Pairs.{nth_fits}
use Rattle.tables.proofs.Laws.{pair_here, pair_broken, pair_holds, pairs_end}
use Rattle.tables.proofs.map.Map.first_broken.Goals as goal

pub loop-pair-init : goal.loop-pair-init
loop-pair-init c = refl

pub first_broken_by-broken-requires : goal.first_broken_by-broken-requires
first_broken_by-broken-requires c =
    let (h, e) = pair_here c.args.self.now.dim _ _ (omega arith) c.pairs_of-pair-items.ensures c.loop-pair-test.true in
    let (a, b) = nth_fits c.args.self.now.dim c.loop-pair.pair-index (omega arith) h in
    rw e (c.requires, omega arith, b)

pub returns-then-is_some : goal.returns-then-is_some
returns-then-is_some c =
    let (h, e) = pair_here c.args.self.now.dim _ _ (omega arith) c.pairs_of-pair-items.ensures c.loop-pair-test.true in
    let b = c.first_broken_by-broken.ensures in
    let l = found_yes _ _ (sym (ap is_some b) ∙ (sym c.is_some.ensures ∙ c.if-is_some.true)) in
    rw (c.loop-pair.invariant ∙ pair_broken _ _ _ _ (omega arith) h _ e _ refl l) b

pub loop-pair-preserved : goal.loop-pair-preserved
loop-pair-preserved c =
    let (h, e) = pair_here c.args.self.now.dim _ _ (omega arith) c.pairs_of-pair-items.ensures c.loop-pair-test.true in
    let b = c.first_broken_by-broken.ensures in
    let l = found_no _ _ (sym (ap is_some b) ∙ (sym c.is_some.ensures ∙ c.if-is_some.false)) in
    c.loop-pair.invariant ∙ pair_holds _ _ _ _ (omega arith) h _ e _ refl l

pub returns : goal.returns
returns c =
    let e = pairs_end _ c.args.self.now.darts c.args.self.now.tables.now c.loop-pair.pair-index _ c.pairs_of-pair-items.ensures (omega arith) in
    rw (c.loop-pair.invariant ∙ e) (sym (found_none _ _ (omega arith)))
