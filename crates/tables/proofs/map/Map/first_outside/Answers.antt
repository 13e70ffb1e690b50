-- `Map::first_outside` meets its contract: the search has come to k, and every link before it is a dart. Assumes nothing.
use native.Mathlib.Omega.{arith}
use Rattle.rules.proofs.Places.{nth_rank, nth_dart}
use Rattle.rules.proofs.Lists.{sought_start, sought_next, sought_found, sought_past}
use Rattle.tables.proofs.Laws.{outside_yes, outside_no}
use Rattle.tables.proofs.map.Map.first_outside.Goals as goal

pub loop-k-init : goal.loop-k-init
loop-k-init c = sought_start _ _

pub nonzero_div-k : goal.nonzero_div-k
nonzero_div-k c = omega arith

pub nonzero_rem-k : goal.nonzero_rem-k
nonzero_rem-k c = omega arith

pub overflow_cast-k : goal.overflow_cast-k
overflow_cast-k c = omega (arith, nth_dart c.args.self.now.darts c.loop-k.k (omega arith))

pub link-x-requires : goal.link-x-requires
link-x-requires c = let m = c.args.self.now in nth_rank m.dim m.darts c.loop-k.k m.limits.darts.0 (omega arith)

pub overflow_cast-x : goal.overflow_cast-x
overflow_cast-x c = omega arith

pub returns-then-self-x : goal.returns-then-self-x
returns-then-self-x c = sought_found c.loop-k.invariant (omega arith) (outside_yes _ _ _ _ _ c.link-x.ensures c.if-self-x.true)

pub loop-k-preserved : goal.loop-k-preserved
loop-k-preserved c = sought_next c.loop-k.invariant (omega arith) (outside_no _ _ _ _ _ c.link-x.ensures c.if-self-x.false)

pub returns : goal.returns
returns c = sought_past c.loop-k.invariant (omega arith)
