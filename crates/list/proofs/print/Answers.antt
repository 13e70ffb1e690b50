-- `list::print` is safe: a report with number 0 is of tables within the limits, which the text needs. Assumes nothing.
use native.Mathlib.Omega.{arith}
use Rattle.report.proofs.Answers.{reported}
use Rattle.list.proofs.print.Goals as goal

pub put-n-requires : goal.put-n-requires
put-n-requires g c =
    let a = c.args in
    (λ h. (reported a.form a.a.dim a.a.darts a.tables.now _ _ c.report-r.ensures.0 h).limits, omega (arith, c.room-out.ensures))
