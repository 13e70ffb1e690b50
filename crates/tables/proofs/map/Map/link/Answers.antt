-- `Map::link` meets its contract: a dart's place is within the tables, and its entry is the link. Assumes nothing.
use native.Mathlib.Omega.{arith}
use mathlib.Core.Path.{sym}
use Rattle.rules.specs.Map.{by_dart}
use Rattle.rules.proofs.Places.{link_none}
use Rattle.tables.proofs.Laws.{place_within, entry_link}
use Rattle.tables.proofs.map.Map.link.Goals as goal

pub offset_bounds-self-place : goal.offset_bounds-self-place
offset_bounds-self-place c = omega (arith, place_within _ _ _ _ _ c.args.self.now.limits c.requires c.if-d-self.true)

pub bounds-self-place : goal.bounds-self-place
bounds-self-place c = omega (arith, place_within _ _ _ _ _ c.args.self.now.limits c.requires c.if-d-self.true)

pub returns-then-d-self : goal.returns-then-d-self
returns-then-d-self c = rw c.place.ensures (entry_link _ _ _ _ _ c.args.self.now.limits c.requires c.if-d-self.true)

pub returns-else-d-self : goal.returns-else-d-self
returns-else-d-self c = sym (link_none by_dart _ _ _ _ _ c.if-d-self.false)
