-- `writer::put_yield` meets its contract: a symbol's code, or nothing. Assumes nothing.
use Rattle.writer.proofs.Replays.{put_nothing, put_one}
use Rattle.writer.proofs.put_yield.Goals as goal

pub returns-in_default : goal.returns-in_default
returns-in_default c = put_nothing c.in_default.is _

pub returns-in-Some : goal.returns-in-Some
returns-in-Some c = put_one _ c.in-Some.is c.put_symbol.ensures
