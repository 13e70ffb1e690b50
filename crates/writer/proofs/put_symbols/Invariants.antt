-- `writer::put_symbols` meets its contract: before each turn a body is begun, and what was put are the codes of the symbols of the bodies before it; at the end
-- none is due. Assumes nothing.
use Prim.Native.Nat.{ℕ, ◌+◌, ◌-◌, ◌<◌}
use mathlib.Core.Path.{◌≡◌}
use mathlib.Core.Bool.{true, false}
use lib.ListN.{get_or}
use Rattle.rules.specs.Map.{by_dart}
use Rattle.rules.specs.Walk.{symbols_of}
use Rattle.rules.specs.Stream.{codes}
use Rattle.tables.specs.Maps.{of}
use Rattle.replay.specs.Replays.{NumberedFrom}
use Rattle.pen.specs.Pens.{Put}
use Rattle.writer.specs.Written.{Writing}
use Rattle.writer.proofs.put_symbols.Given as goal

abbrev pub invariant-loop-due : goal.invariant-loop-due
invariant-loop-due l =
    let m = l.valid.map in
    let i = l.initial in
    (l.due ≡ true → get_or l.positions 0 0 < m.darts)
    × ((root : ℕ) → of (NumberedFrom l.form) m root l.work
    → (l.due ≡ true → of (Writing l.form) m root (get_or l.positions 0 0 + 1) l.positions i.sheet l.sheet)
    × (l.due ≡ false → Put (codes (of (symbols_of l.form by_dart) m root)) i.sheet l.sheet))

abbrev pub decreases-loop-due : goal.decreases-loop-due
decreases-loop-due l = l.valid.map.darts - get_or l.positions 0 0
