-- `reader::page_running` meets its contract: the walk of the record goes on. Assumes nothing.
use Rattle.reader.proofs.Laws.{running_goes}
use Rattle.reader.proofs.page_running.Goals as goal

pub returns : goal.returns
returns c =
    let r = c.go_on.ensures in
    record { left = running_goes _ c.args.s _ _ c.from-stand.ensures _ _ r.left; fetch = r.fetch }
