-- `replay::deduced` meets its contract: the search for a rank across which aj(d) is deduced has come to i. Where ai(d) is d nothing is known, as at d.
-- Assumes nothing.
use mathlib.Core.Path.{sym, ◌∙◌}
use native.Mathlib.Omega.{arith}
use Rattle.rules.proofs.Lists.{sought_start, sought_next}
use Rattle.replay.specs.Replays.{deducing_rank}
use Rattle.replay.proofs.Laws.{unknown_there, found_below, found_none}
use Rattle.replay.proofs.deduced.Goals as goal
use Rattle.replay.proofs.deduced.Goals.{else-ne-via-else-ne, else-ne-via-then-ne+else-known}

pub loop-i-init : goal.loop-i-init
loop-i-init c = sought_start _ _

pub returns-then-known : goal.returns-then-known
unfolding deducing_rank
returns-then-known c = found_below c.loop-i.invariant (omega arith) (rw (← c.partner_of-c.ensures, ← c.known.ensures) c.if-known.true)

pub loop-i-preserved : goal.loop-i-preserved
loop-i-preserved c =
    let e = c.partner_of-c.ensures in
    sought_next c.loop-i.invariant (omega arith)
    (elim c.else-ne.branch [
      | else-ne-via-then-ne+else-known w ↦ rw (← e, ← w.known.ensures) w.if-known.false
      | else-ne-via-else-ne w ↦ unknown_there _ _ _ _ _ _ _ _ _ e (sym c.ne.ensures ∙ w.if-ne.false) c.requires.3
    ])

pub returns : goal.returns
unfolding deducing_rank
returns c = found_none c.loop-i.invariant (omega arith)
