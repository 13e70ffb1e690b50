-- `replay::deduced` meets its contract: the search for a rank across which aj(d) is deduced has come to i. Where ai(d) is d nothing is known, as at d.
-- Assumes nothing.
use Prim.Native.Nat.{◌-◌}
use Rattle.rules.specs.Map.{by_dart, link}
use Rattle.rules.proofs.Lists.{Sought}
use Rattle.tables.specs.Maps.{of}
use Rattle.replay.specs.Replays.{known_in}
use Rattle.replay.proofs.deduced.Given as goal

abbrev pub invariant-loop-i : goal.invariant-loop-i
invariant-loop-i l =
    let m = l.valid.map in
    Sought (λ r. of (known_in by_dart) m l.work l.j l.position (of (link by_dart) m r l.d.0)) (l.j - 1) l.i
