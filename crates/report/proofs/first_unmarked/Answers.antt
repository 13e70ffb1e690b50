-- `report::first_unmarked` meets its contract: the search may begin where all darts before have a mark. Assumes nothing.
use native.Mathlib.Omega.{arith}
use Rattle.report.proofs.Bodies.{begun_numbered}
use Rattle.report.proofs.first_unmarked.Goals as goal

pub first_unnumbered-requires : goal.first_unnumbered-requires
first_unnumbered-requires c =
    let room = c.args.queue.now.queue.room in
    let (within, begun) = c.requires in
    (omega (arith, within), omega (arith, within), begun_numbered _ _ (omega arith) within begun)
