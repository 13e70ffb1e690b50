-- `Map::commutes` meets its contract: every rank before i goes with rank j. Assumes nothing.
use mathlib.Core.Path.{sym, ◌∙◌}
use native.Mathlib.Omega.{arith}
use Rattle.rules.proofs.Lists.{passed_start, passed_next, passed_end, fails_at}
use Rattle.tables.proofs.map.Map.commutes.Goals as goal

pub loop-i-init : goal.loop-i-init
loop-i-init c = passed_start _ _

pub goes_with-requires : goal.goes_with-requires
goes_with-requires c =
    let p = c.requires in
    (omega (arith, p.0), p.0, p.1, p.2, p.3, p.4 c.loop-i.i (omega arith))

pub returns-then-not-goes_with : goal.returns-then-not-goes_with
returns-then-not-goes_with c = fails_at _ _ c.loop-i.i (omega arith) (sym c.goes_with.ensures ∙ c.if-not-goes_with.true)

pub loop-i-preserved : goal.loop-i-preserved
loop-i-preserved c = passed_next c.loop-i.invariant (omega arith) (sym c.goes_with.ensures ∙ c.if-not-goes_with.false)

pub returns : goal.returns
returns c = passed_end c.loop-i.invariant (omega arith)
