-- `pen::Sheet::put_symbol` meets its contract: by the symbol. Assumes nothing.
use Rattle.pen.proofs.Laws.{put_new, put_border, put_index}
use Rattle.pen.proofs.Sheet.put_symbol.Goals as goal

pub returns-in-New : goal.returns-in-New
returns-in-New c = put_new c.in-New.is c.put_few.ensures

pub returns-in-Border : goal.returns-in-Border
returns-in-Border c = put_border c.in-Border.is c.put_few-in-Border.ensures

pub returns-in-Index : goal.returns-in-Index
returns-in-Index c = put_index _ c.in-Index.is c.requires.1 c.put_number.ensures
