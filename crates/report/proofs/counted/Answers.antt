-- `report::counted` meets its contract: each part of the answer is the definition's. Assumes nothing.
use Rattle.report.proofs.Spans.{spanned_cells}
use Rattle.report.proofs.Tallies.{still_free}
use Rattle.report.proofs.Classes.{classes_tell}
use Rattle.report.proofs.Answers.{counted_parts, blank_over}
use Rattle.report.proofs.counted.Goals as goal

pub cell_counts-cells-requires : goal.cell_counts-cells-requires
cell_counts-cells-requires c =
    let (_, S, all) = c.requires in
    (S.queue.room, spanned_cells c.args.valid.now.valid S all)

pub returns : goal.returns
returns c =
    let v = c.args.valid.now in
    let (_, S, all) = c.requires in
    let t = c.tally_all-t.ensures in
    let two = classes_tell v.valid v.map.limits.darts.0 S all _ _ t.near (still_free t) in
    let past = c.cell_counts-cells.ensures.1 in
    (counted_parts _ _ _ _ _ _ c.cell_counts-cells.ensures.0 (still_free t) two, blank_over _ _ _ _ c.blank.ensures past)
