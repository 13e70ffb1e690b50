-- `reader::header_waits` meets its contract: the record, the answer, and the bytes of the header's other bits. Assumes nothing.
use mathlib.Core.Path.{◌∙◌}
use Rattle.reader.proofs.header_waits.Goals as goal

pub returns : goal.returns
returns c =
    let a = c.asking.ensures in
    (a.0 ∙ (λ i. record { session = c.idle-session.ensures i; answer = c.plain-answer.ensures i }), a.1 ∙ c.whole_bytes-fetch.ensures)
