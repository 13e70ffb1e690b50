-- `writer::write` meets its contract: the answer that the page's result makes. Assumes nothing.
use mathlib.Core.Path.{◌∙◌}
use Rattle.writer.proofs.Writes.{answer_taken}
use Rattle.writer.proofs.write.Goals as goal

pub returns : goal.returns
returns c =
    let (e, u, o) = c.written.ensures in
    (answer_taken _ c.unwrap_or_else.ensures ∙ e, u, o)
