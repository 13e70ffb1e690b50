-- `checker::misfit` meets its contract: the first size that does not fit decides. Assumes nothing.
use Prim.Native.Nat.{◌+◌, ◌*◌, ◌≤◌}
use mathlib.Core.Path.{◌≡◌}
use mathlib.Core.Bool.{true}
use native.Mathlib.Omega.{arith}
use native.Mathlib.Nat.{mul-le-mul}
use Rattle.rules.specs.Map.{dim_fits, darts_fit}
use Rattle.rules.specs.Refusals.{number_of}
use Rattle.rules.proofs.Readings.{fits_dim}
use Rattle.checker.proofs.Verdicts.{dim_low, dim_high, darts_low, darts_high, fits_darts}
use Rattle.checker.proofs.Verdicts.{misfit_dim, misfit_darts, misfit_tables, misfit_work, misfit_root, misfit_none}
use Rattle.checker.proofs.misfit.Goals as goal
use Rattle.checker.proofs.misfit.Goals.{Else-darts-gt-DARTS}

pub returns-then-dim-lt1 : goal.returns-then-dim-lt1
unfolding number_of
returns-then-dim-lt1 c = rw c.of.ensures (misfit_dim _ _ _ _ _ (dim_low _ c.if-dim-lt1.true))

pub returns-then-dim-gt6 : goal.returns-then-dim-gt6
unfolding number_of
returns-then-dim-gt6 c = rw c.of-then-dim-gt6.ensures (misfit_dim _ _ _ _ _ (dim_high _ c.if-dim-gt6.true))

pub returns-then-darts-lt1 : goal.returns-then-darts-lt1
unfolding number_of
returns-then-darts-lt1 c =
    rw c.of-then-darts-lt1.ensures (misfit_darts _ _ _ _ _ (fits_dim c.args.dim (omega arith) (omega arith)) (darts_low _ c.if-darts-lt1.true))

pub returns-then-darts-gt-DARTS : goal.returns-then-darts-gt-DARTS
unfolding number_of
returns-then-darts-gt-DARTS c =
    rw c.of-then-darts-gt-DARTS.ensures
    (misfit_darts _ _ _ _ _ (fits_dim c.args.dim (omega arith) (omega arith)) (darts_high _ c.if-darts-gt-DARTS.true))

pub overflow_mul-dim : goal.overflow_mul-dim
overflow_mul-dim c =
    let a = c.args in
    let h : (a.dim + 1) * a.darts ≤ 7 * 4096 = mul-le-mul {n₁ = a.dim + 1} {m₁ = a.darts} {n₂ = 7} {m₂ = 4096} (omega arith) (omega arith) in
    omega arith

-- the dimension and the darts fit
dims : (c : Else-darts-gt-DARTS) → dim_fits c.args.dim ≡ true
dims c = fits_dim c.args.dim (omega arith) (omega arith)

some : (c : Else-darts-gt-DARTS) → darts_fit c.args.darts ≡ true
some c = fits_darts c.args.darts (omega arith) (omega arith)

pub returns-then-tables-dim : goal.returns-then-tables-dim
unfolding number_of
returns-then-tables-dim c =
    let e = (goal.at.returns-then-tables-dim c).Else-darts-gt-DARTS in
    rw c.of-then-tables-dim.ensures (misfit_tables _ _ _ _ _ (dims e) (some e) (omega arith))

pub returns-then-work-darts : goal.returns-then-work-darts
unfolding number_of
returns-then-work-darts c =
    let e = (goal.at.returns-then-work-darts c).Else-darts-gt-DARTS in
    rw c.of-then-work-darts.ensures (misfit_work _ _ _ _ _ (dims e) (some e) (omega arith) c.if-work-darts.true)

pub returns-then-darts-root : goal.returns-then-darts-root
unfolding number_of
returns-then-darts-root c =
    let e = (goal.at.returns-then-darts-root c).Else-darts-gt-DARTS in
    rw c.of-then-darts-root.ensures (misfit_root _ _ _ _ _ (dims e) (some e) (omega arith) c.if-work-darts.false c.if-darts-root.true)

pub returns : goal.returns
returns c =
    let e = (goal.at.returns c).Else-darts-gt-DARTS in
    misfit_none _ _ _ _ _ (dims e) (some e) (omega arith) c.if-work-darts.false c.if-darts-root.false
