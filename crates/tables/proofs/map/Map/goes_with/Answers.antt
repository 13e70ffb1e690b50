-- `Map::goes_with` meets its contract: either a lower dart, or both ways compared, each link of a dart. Assumes nothing.
use Rattle.tables.proofs.Sound.{commutes_lower, commutes_asked}
use Rattle.tables.proofs.map.Map.goes_with.Goals as goal

pub returns-then-y-dart : goal.returns-then-y-dart
returns-then-y-dart c = commutes_lower _ _ _ _ _ _ _ c.link_at-y.ensures c.if-y-dart.true

pub link_at-requires : goal.link_at-requires
link_at-requires c = let p = c.requires in (p.1, rw c.link_at-y.ensures p.5)

pub link_at-requires-2 : goal.link_at-requires-2
link_at-requires-2 c = let p = c.requires in (p.0, p.3)

pub returns : goal.returns
returns c =
    let p = c.requires in
    commutes_asked _ _ _ _ _ _ _ c.link_at-y.ensures _ _ _ p.4 c.link_at.ensures c.link_at-2.ensures c.if-y-dart.false
