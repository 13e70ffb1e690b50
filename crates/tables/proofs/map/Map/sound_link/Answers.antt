-- `Map::sound_link` meets its contract: each answer is the definition's, one way through the code at a time. Assumes nothing.
use Rattle.tables.proofs.Sound.{sound_none, sound_twisted, sound_lower, sound_asked}
use Rattle.tables.proofs.map.Map.sound_link.Goals as goal

pub returns-then-self-x : goal.returns-then-self-x
returns-then-self-x c = sound_none _ _ _ _ _ _ c.link_at-x.ensures c.if-self-x.true

pub link_at-requires : goal.link_at-requires
link_at-requires c = let p = c.requires in (p.0, c.if-self-x.false)

pub returns-then-link_at-dart : goal.returns-then-link_at-dart
returns-then-link_at-dart c = sound_twisted _ _ _ _ _ _ c.link_at-x.ensures c.if-self-x.false _ c.link_at.ensures c.if-link_at-dart.true

pub returns-then-x-dart : goal.returns-then-x-dart
returns-then-x-dart c =
    sound_lower _ _ _ _ _ _ c.link_at-x.ensures c.if-self-x.false _ c.link_at.ensures c.if-link_at-dart.false c.if-x-dart.true

pub commutes-requires : goal.commutes-requires
commutes-requires c =
    let p = c.requires in
    (p.0, p.1, c.if-self-x.false, c.link_at-x.ensures, p.2)

pub returns : goal.returns
returns c =
    sound_asked _ _ _ _ _ _ c.link_at-x.ensures c.if-self-x.false _ c.link_at.ensures c.if-link_at-dart.false c.if-x-dart.false _ c.commutes.ensures
