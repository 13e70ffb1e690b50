-- `records::settle` meets its contract: by how the run ended. Assumes nothing.
use mathlib.Core.Path.{ap, ◌∙◌}
use Rattle.std.specs.Prelude.{Err}
use Rattle.rules.proofs.Readings.{short_begins, begins_13}
use Rattle.records.proofs.Lefts.{running_left, settled_refused, settled_ended, settled_waits}
use Rattle.records.proofs.settle.Goals as goal

pub rest-w-requires : goal.rest-w-requires
rest-w-requires c =
    let p = c.requires in
    begins_13 _ (short_begins _ _ (p.short _ (c.in-Err-Waits.is ∙ ap Err (rw c.in-Err-Waits.is at c.in-Err-Waits.field-0-is))))

pub returns-in-Err-Refused : goal.returns-in-Err-Refused
returns-in-Err-Refused c = settled_refused _ _ _ _ _ _ (c.in-Err-Refused.is ∙ ap Err (rw c.in-Err-Refused.is at c.in-Err-Refused.field-0-is)) c.spoiled.ensures

pub returns-in-Ok : goal.returns-in-Ok
returns-in-Ok c = settled_ended _ _ _ _ _ c.in-Ok.is c.finish.ensures

pub returns-in-Err-Waits : goal.returns-in-Err-Waits
returns-in-Err-Waits c =
    let x = c.rest-w.ensures in
    let y = c.held.ensures in
    settled_waits _ _ _ _ _ _ (c.in-Err-Waits.is ∙ ap Err (rw c.in-Err-Waits.is at c.in-Err-Waits.field-0-is)) (running_left _ _ _ _ _ y.1 _ _ _ x.0 x.1 y.0)
