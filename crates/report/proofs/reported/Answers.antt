-- `report::reported` meets its contract: sizes, tables and what is reached, each refusing in its turn as the verdict of the form does; else each part of the
-- answer is the definition's. Assumes nothing.
use mathlib.Core.Path.{◌≡◌, sym, ◌∙◌}
use lib.ListN.{length}
use native.Mathlib.Omega.{arith}
use Rattle.std.proofs.Common.{rules}
use Rattle.std.proofs.lemmas.Result.{err_from_is_err_and}
use Rattle.rules.specs.Check.{fine}
use Rattle.flood.proofs.Queues.{past_blanked}
use Rattle.checker.specs.Parts.{misfit_of}
use Rattle.report.proofs.Answers.{Tabled, report_sizes, report_limits, report_tables, report_tabled, report_misjoined, report_counted}
use Rattle.report.proofs.reported.Goals as goal
use Rattle.report.proofs.reported.Goals.{In_ok-misfit, In_ok-misbuilt}

-- the sizes fit, and the tables hold a valid map
sized : (c : In_ok-misfit) → misfit_of c.args.dim c.args.darts 0 (length c.args.tables.now) (length c.args.work.now) ≡ fine
sized c = sym c.in_ok-misfit.ensures

tables : (c : In_ok-misbuilt) → Tabled c.args.form c.args.dim c.args.darts c.args.tables.now c.args.work.now
tables c = report_tabled _ _ _ _ _ (sym c.in_ok-misfit.ensures) (sym c.in_ok-misbuilt.ensures)

pub returns-in_err-misfit : goal.returns-in_err-misfit
returns-in_err-misfit c =
    let p = err_from_is_err_and c.from_residual.result c.from_residual.ensures.1 in
    rw (p.1, p.2) (report_sizes _ _ _ _ _ c.in_err-misfit.ensures)

pub invariant_of-map : goal.invariant_of-map
invariant_of-map c = record { limits = report_limits c.args.form _ _ _ _ (sized (goal.at.invariant_of-map c).In_ok-misfit) }

pub returns-in_err-misbuilt : goal.returns-in_err-misbuilt
returns-in_err-misbuilt c =
    let p = err_from_is_err_and c.from_residual-in_err-misbuilt.result c.from_residual-in_err-misbuilt.ensures.1 in
    let z = sized (goal.at.returns-in_err-misbuilt c).In_ok-misfit in
    rw (p.1, p.2) (report_tables _ _ _ _ _ z c.in_err-misbuilt.ensures)

pub invariant_of-valid : goal.invariant_of-valid
invariant_of-valid c = record { valid = (tables (goal.at.invariant_of-valid c).In_ok-misbuilt).valid }

pub new-queue-requires : goal.new-queue-requires
new-queue-requires c = (tables (goal.at.new-queue-requires c).In_ok-misbuilt).room

pub misjoined-requires : goal.misjoined-requires
misjoined-requires c =
    let T = tables (goal.at.misjoined-requires c).In_ok-misbuilt in
    let n = c.new-queue.ensures.0 in
    let (stays, _, S) = c.span-first.ensures in
    (omega (arith, n, stays.0.0, T.limits.darts.1), omega (arith, n, stays.0.0, S.within), S.begun)

-- the room is the queue's again once that is let go
pub returns-in-Err : goal.returns-in-Err
returns-in-Err c =
    let T = tables (goal.at.returns-in-Err c).In_ok-misbuilt in
    let (n, name, _, ew) = c.new-queue.ensures in
    let (stays, one, S) = c.span-first.ensures in
    let past = stays.1 ∙ past_blanked _ _ _ T.room ew in
    let e = rw (stays.0.0 ∙ n) at c.in-Err.ensures in
    report_misjoined T S one _ c.blank.ensures (search (rules, past, sym (stays.0.1 ∙ name))) e

pub returns : goal.returns
returns c =
    let T = tables (goal.at.returns c).In_ok-misbuilt in
    let (n, name, _, ew) = c.new-queue.ensures in
    let (stays, one, S) = c.span-first.ensures in
    let on = c.span_rest-all.ensures.0 in
    let past = on.1 ∙ (stays.1 ∙ past_blanked _ _ _ T.room ew) in
    let (answer, left) = c.counted.ensures in
    let e = rw (stays.0.0 ∙ n) at c.in_default.ensures in
    report_counted T S one _ left (search (rules, past, sym (on.0.1 ∙ (stays.0.1 ∙ name)))) (sym e) answer
