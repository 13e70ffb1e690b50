-- `report::span` meets its contract: it is the body of dart 0, begun where nothing is marked. Assumes nothing.
use native.Mathlib.Omega.{arith}
use Rattle.report.proofs.Spans.{spun_none, class_none}
use Rattle.report.proofs.span.Goals as goal

pub span_body-requires : goal.span_body-requires
span_body-requires c =
    let (n, e) = c.requires in
    let Q = rw (n, e) at c.args.queue.now.queue in
    (n, rw e (spun_none Q), (omega arith, class_none Q 0 (omega arith)))
