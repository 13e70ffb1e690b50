-- `Map::link_at` meets its contract: a dart's entry is its link. Assumes nothing.
use native.Mathlib.Omega.{arith}
use Rattle.tables.proofs.Laws.{place_within, entry_link}
use Rattle.tables.proofs.map.Map.link_at.Goals as goal

pub offset_bounds-self-place : goal.offset_bounds-self-place
offset_bounds-self-place c = omega (arith, place_within _ _ _ _ _ c.args.self.now.limits c.requires.0 c.requires.1)

pub bounds-self-place : goal.bounds-self-place
bounds-self-place c = omega (arith, place_within _ _ _ _ _ c.args.self.now.limits c.requires.0 c.requires.1)

pub returns : goal.returns
returns c = rw c.place.ensures (entry_link _ _ _ _ _ c.args.self.now.limits c.requires.0 c.requires.1)
