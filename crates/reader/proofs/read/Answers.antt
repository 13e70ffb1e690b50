-- `reader::read` meets its contract: the record for all the bytes, closed. Assumes nothing.
use Rattle.reader.proofs.Laws.{read_fit, read_closed}
use Rattle.reader.proofs.read.Goals as goal

pub close_fit-last-requires : goal.close_fit-last-requires
close_fit-last-requires c = read_fit _ _ _ _ _ c.«open».ensures c.page_header-first.ensures.left

pub returns : goal.returns
returns c = read_closed _ _ _ _ _ c.«open».ensures c.page_header-first.ensures.left _ _ c.close_fit-last.ensures
