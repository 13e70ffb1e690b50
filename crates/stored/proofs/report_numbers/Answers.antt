-- `stored::report_numbers` meets its contract: the numbers of the answer in their order. Assumes nothing.
use mathlib.Core.Path.{◌≡◌}
use lib.ListN.{length}
use Rattle.stored.proofs.Laws.{reported_by}
use Rattle.stored.proofs.report_numbers.Goals as goal

pub returns : goal.returns
returns c =
    let e : length c.args.a.cells ≡ 7 = c.well_formed.0.1.1.1.1.0.1.0.1 in
    reported_by c.args.a e _ c.from.ensures
