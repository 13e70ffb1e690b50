-- `checker::checked` meets its contract: sizes, tables, bodies, each refusing in its turn as the verdict of the rules does. Assumes nothing.
use Prim.Native.Nat.{◌*◌, ◌≤◌, ◌<◌}
use mathlib.Core.Path.{◌≡◌, sym, ◌∙◌}
use native.Mathlib.Omega.{arith}
use lib.ListN.{length}
use Rattle.std.proofs.lemmas.Result.{err_from_is_err_and}
use Rattle.rules.specs.Map.{Limits}
use Rattle.rules.specs.Check.{fine}
use Rattle.checker.specs.Parts.{misfit_of, misbuilt_of}
use Rattle.checker.proofs.Verdicts.{verdict_ok, verdict_err, verdict_sizes, check_sizes, check_limits, verdict_tables, check_tables, check_valid}
use Rattle.checker.proofs.Verdicts.{verdict_joined, check_bodies, check_fine}
use Rattle.checker.proofs.checked.Goals as goal
use Rattle.checker.proofs.checked.Goals.{In_ok-misfit, In_ok-misbuilt}

-- the sizes fit, and so the tables are a map's
sized : (c : In_ok-misfit) → let a = c.args in misfit_of a.dim a.darts a.root (length a.tables.now) (length a.work.now) ≡ fine
sized c = sym c.in_ok-misfit.ensures

limits : (c : In_ok-misfit) → let a = c.args in Limits a.dim a.darts a.tables.now × (2 * a.darts ≤ length a.work.now) × (a.root < a.darts)
limits c = check_limits c.args.form _ _ _ _ _ (sized c)

built : (c : In_ok-misbuilt) → let a = c.args in misbuilt_of a.dim a.darts a.tables.now ≡ fine
built c = sym c.in_ok-misbuilt.ensures

pub returns-in_err-misfit : goal.returns-in_err-misfit
returns-in_err-misfit c =
    let p = err_from_is_err_and c.from_residual.result c.from_residual.ensures.1 in
    let e = c.in_err-misfit.ensures in
    rw (p.1, p.2) (verdict_sizes _ _ _ _ _ _ e, (check_sizes _ _ _ _ _ _ e).1)

pub invariant_of-map : goal.invariant_of-map
invariant_of-map c = record { limits = (limits (goal.at.invariant_of-map c).In_ok-misfit).0 }

pub returns-in_err-misbuilt : goal.returns-in_err-misbuilt
returns-in_err-misbuilt c =
    let p = err_from_is_err_and c.from_residual-in_err-misbuilt.result c.from_residual-in_err-misbuilt.ensures.1 in
    let z = sized (goal.at.returns-in_err-misbuilt c).In_ok-misfit in
    let e = c.in_err-misbuilt.ensures in
    rw (p.1, p.2) (verdict_tables _ _ _ _ _ _ z e, (check_tables _ _ _ _ _ _ z e).1)

pub invariant_of-valid : goal.invariant_of-valid
invariant_of-valid c =
    let z = sized (goal.at.invariant_of-valid c).In_ok-misfit in
    record { valid = check_valid c.args.form _ _ _ _ _ z (built (goal.at.invariant_of-valid c).In_ok-misbuilt) }

pub number_all-bodies-requires : goal.number_all-bodies-requires
number_all-bodies-requires c =
    let (l, w, r) = limits (goal.at.number_all-bodies-requires c).In_ok-misfit in
    (r, w)

pub misjoined-joined-requires : goal.misjoined-joined-requires
misjoined-joined-requires c =
    let (l, w, r) = limits (goal.at.misjoined-joined-requires c).In_ok-misfit in
    (omega (arith, w), l.darts.1)

pub returns-then-is_ok : goal.returns-then-is_ok
returns-then-is_ok c =
    let z = sized (goal.at.returns-then-is_ok c).In_ok-misfit in
    let y = built (goal.at.returns-then-is_ok c).In_ok-misbuilt in
    let e = c.number_all-bodies.ensures in
    let j = c.misjoined-joined.ensures in
    let q = verdict_ok _ j (sym c.is_ok.ensures.value ∙ c.if-is_ok.true) in
    (j ∙ verdict_joined _ _ _ _ _ _ z y _ e.0 _ e.1, (check_fine _ _ _ _ _ _ z y _ e.0 _ e.1 q).1)

pub overflow_mul-darts : goal.overflow_mul-darts
overflow_mul-darts c = omega (arith, (limits (goal.at.overflow_mul-darts c).In_ok-misfit).0.darts.1)

pub blank-requires : goal.blank-requires
blank-requires c = omega (arith, (limits (goal.at.blank-requires c).In_ok-misfit).1)

pub returns : goal.returns
returns c =
    let z = sized (goal.at.returns c).In_ok-misfit in
    let y = built (goal.at.returns c).In_ok-misbuilt in
    let e = c.number_all-bodies.ensures in
    let j = c.misjoined-joined.ensures in
    let (q, r) = verdict_err _ j (sym c.is_ok.ensures.value ∙ c.if-is_ok.false) in
    (j ∙ verdict_joined _ _ _ _ _ _ z y _ e.0 _ e.1, c.blank.ensures ∙ (check_bodies _ _ _ _ _ _ z y _ e.0 _ e.1 r).1)
