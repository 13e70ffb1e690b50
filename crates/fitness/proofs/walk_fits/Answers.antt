-- `fitness::walk_fits` meets its contract: each answer is what the tests before it leave. Assumes nothing.
use mathlib.Core.Bool.{not}
use mathlib.Core.Path.{ap, sym, ◌∙◌}
use native.Mathlib.Omega.{arith}
use borrow.Author.Rules.{rules}
use Rattle.fitness.proofs.Laws.{Sized, falls_below, falls_last, few_entries, walk_low, walk_high, walk_none, walk_many, walk_short, walk_empty}
use Rattle.fitness.proofs.Laws.{walk_over, walk_bodies, walk_rising, walk_past, walk_entries}
use Rattle.fitness.proofs.walk_fits.Goals as goal

pub returns-then-dim-lt1 : goal.returns-then-dim-lt1
returns-then-dim-lt1 c = walk_low _ _ c.if-dim-lt1.true

pub returns-then-dim-gt6 : goal.returns-then-dim-gt6
returns-then-dim-gt6 c = walk_high _ _ c.if-dim-gt6.true

pub returns-then-darts-lt1 : goal.returns-then-darts-lt1
returns-then-darts-lt1 c = walk_none _ _ c.if-darts-lt1.true

pub returns-then-darts-gt-DARTS : goal.returns-then-darts-gt-DARTS
returns-then-darts-gt-DARTS c = walk_many _ _ c.if-darts-gt-DARTS.true

pub overflow_mul-dim : goal.overflow_mul-dim
overflow_mul-dim c = omega (arith, few_entries _ _ c.if-dim-gt6.false c.if-darts-gt-DARTS.false)

pub returns-then-tables-dim : goal.returns-then-tables-dim
returns-then-tables-dim c = walk_short _ _ c.if-tables-dim.true

pub returns-then-s-lt1 : goal.returns-then-s-lt1
returns-then-s-lt1 c = walk_empty _ _ c.if-s-lt1.true

pub returns-then-darts-s : goal.returns-then-darts-s
returns-then-darts-s c = walk_over _ _ c.if-darts-s.true

pub returns-then-not-bodies_fit : goal.returns-then-not-bodies_fit
returns-then-not-bodies_fit c = walk_bodies _ _ _ c.bodies_fit.ensures (ap not c.if-not-bodies_fit.true)

pub returns-then-not-positions_fall : goal.returns-then-not-positions_fall
returns-then-not-positions_fall c = walk_rising _ _ _ c.positions_fall.ensures (ap not c.if-not-positions_fall.true)

pub returns-then-not-positions_past : goal.returns-then-not-positions_past
returns-then-not-positions_past c = walk_past _ _ _ c.positions_fall.ensures _ c.positions_past.ensures (ap not c.if-not-positions_past.true)

pub entries_fit-requires : goal.entries_fit-requires
entries_fit-requires c =
    let e = sym c.positions_fall.ensures ∙ c.if-not-positions_fall.false in
    (search rules, λ i h. omega (arith, falls_below _ _ _ e i h), falls_last _ _ _ e)

pub returns : goal.returns
returns c =
    let sized : let a = c.args in Sized a.s a.tables.now =
    record {
      low = c.if-dim-lt1.false;
      high = c.if-dim-gt6.false;
      some = c.if-darts-lt1.false;
      most = c.if-darts-gt-DARTS.false;
      room = c.if-tables-dim.false;
      first = c.if-s-lt1.false;
      within = c.if-darts-s.false;
    } in
    walk_entries _ _ _ c.positions_fall.ensures _ c.positions_past.ensures
    sized _ c.bodies_fit.ensures (ap not c.if-not-bodies_fit.false) (ap not c.if-not-positions_fall.false) (ap not c.if-not-positions_past.false) _
    c.entries_fit.ensures
