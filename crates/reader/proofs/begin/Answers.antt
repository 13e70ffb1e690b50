-- `reader::begin` meets its contract: both header bytes: 1, 3, or the walk from its start. Assumes nothing.
use native.Mathlib.Omega.{arith}
use Rattle.rules.specs.Bodies.{dim_of}
use Rattle.rules.specs.Refusals.{number_of}
use Rattle.reader.specs.Calls.{headed}
use Rattle.rules.proofs.Readings.{fits_dim}
use Rattle.records.proofs.Fetches.{fetches_at}
use Rattle.reader.proofs.Laws.{unfit_dim, begin_dim, begin_room, begin_walk, fresh_hand, size_is, begin_blank, begin_fits, begin_ready}
use Rattle.reader.proofs.Laws.{refused_none}
use Rattle.reader.proofs.begin.Goals as goal

pub returns-then-dim-lt1 : goal.returns-then-dim-lt1
unfolding headed dim_of number_of
returns-then-dim-lt1 c =
    let r = rw c.number.ensures at c.refused.ensures in
    fetches_at _ _ _ _ c.asking.ensures (begin_dim _ _ _ _ _ _ r.0 r.1 (unfit_dim _ c.then-dim-lt1.either)) (refused_none _ 1 0 r.0)

pub returns-then-tables-size : goal.returns-then-tables-size
unfolding headed dim_of number_of
returns-then-tables-size c =
    let r = rw c.number-then-tables-size.ensures at c.refused-then-tables-size.ensures in
    fetches_at _ _ _ _ c.asking-then-tables-size.ensures
    (begin_room _ _ _ _ _ _ r.0 r.1 (fits_dim _ (omega arith) (omega arith)) (rw (size_is _ _) at c.if-tables-size.true))
    (refused_none _ 3 0 r.0)

pub invariant_of-bits : goal.invariant_of-bits
invariant_of-bits c = record { fits = begin_fits _ _ c.requires }

pub go_on-requires : goal.go_on-requires
go_on-requires c = begin_ready _ _ _ _ _ (omega arith, omega arith) (omega arith, omega arith) _ c.blank.ensures

pub returns : goal.returns
unfolding headed dim_of
returns c =
    let r = c.go_on.ensures in
    record {
      left = begin_walk _ _ _ _ _ _ _ _ _ _ (begin_blank _ _ _ _ c.blank.ensures) _ c.form_of-form.ensures r.left
          (fresh_hand _ _) (omega arith, omega arith) (omega arith, omega arith)
          (rw (size_is _ _) at c.if-tables-size.false);
      fetch = r.fetch;
    }
