-- `Map::first_twisted` meets its contract: every link of the ranks before leads back. Assumes nothing.
use Prim.Native.Nat.{◌+◌, ◌*◌}
use mathlib.Core.Path.{◌≡◌, refl, sym, ◌∙◌}
use native.Mathlib.Omega.{arith}
use Rattle.rules.proofs.Places.{row_within}
use Rattle.rules.proofs.Lists.{found_is, found_not, sought_start, sought_past, sought_none, sought_found_among}
use Rattle.tables.proofs.Laws.{rows_few}
use Rattle.tables.proofs.map.Map.first_twisted.Goals as goal

pub loop-rank-init : goal.loop-rank-init
loop-rank-init c = let e : 0 * c.args.self.now.darts ≡ 0 = omega arith in (omega arith, rw e (sought_start _ _))

pub twisted_at-requires : goal.twisted_at-requires
twisted_at-requires c = omega arith

pub overflow_mul-result : goal.overflow_mul-result
overflow_mul-result c =
    let a = c.args.self.now in
    omega (arith, rows_few a.dim a.darts c.loop-rank.rank (omega arith) (omega arith) (omega arith))

pub overflow_add-result : goal.overflow_add-result
overflow_add-result c =
    let a = c.args.self.now in
    let (e, h) = found_is _ _ _ (sym c.twisted_at.ensures ∙ c.in-Some.is) in
    omega (arith, rows_few a.dim a.darts c.loop-rank.rank (omega arith) (omega arith) (omega arith))

pub returns-in-Some : goal.returns-in-Some
returns-in-Some c =
    let a = c.args.self.now in
    let l = c.loop-rank in
    let (e, h) = found_is _ _ _ (sym c.twisted_at.ensures ∙ c.in-Some.is) in
    sought_found_among l.invariant.1 a.darts _ (row_within a.dim a.darts l.rank (omega arith)) e (omega arith)

pub loop-rank-preserved : goal.loop-rank-preserved
loop-rank-preserved c =
    let a = c.args.self.now in
    let l = c.loop-rank in
    let e : (l.rank + 1) * a.darts ≡ l.rank * a.darts + a.darts = omega arith in
    let past = found_not _ _ (sym c.twisted_at.ensures ∙ c.in_default.is) in
    let on = sought_none l.invariant.1 a.darts _ (row_within a.dim a.darts l.rank (omega arith)) refl past in
    (omega arith, rw e on)

pub returns : goal.returns
returns c =
    let l = c.loop-rank in
    let e : l.rank ≡ c.args.self.now.dim + 1 = omega arith in
    sought_past l.invariant.1 (rw e (omega arith))
