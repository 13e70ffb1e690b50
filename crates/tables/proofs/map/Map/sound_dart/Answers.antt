-- `Map::sound_dart` meets its contract: the dart's link of every rank before j passes, so it is a dart. Assumes nothing.
use mathlib.Core.Path.{sym, ◌∙◌}
use native.Mathlib.Omega.{arith}
use Rattle.rules.proofs.Lists.{passed_start, passed_next, passed_end, fails_at}
use Rattle.tables.specs.Sound.{sound_dart}
use Rattle.tables.proofs.Sound.{inside_so_far}
use Rattle.tables.proofs.map.Map.sound_dart.Goals as goal

pub loop-j-init : goal.loop-j-init
loop-j-init c = passed_start _ _

pub sound_link-requires : goal.sound_link-requires
sound_link-requires c =
    let p = c.requires in
    (omega arith, p, inside_so_far _ _ _ _ _ c.loop-j.invariant)

pub returns-then-not-sound_link : goal.returns-then-not-sound_link
unfolding sound_dart
returns-then-not-sound_link c = fails_at _ _ c.loop-j.j (omega arith) (sym c.sound_link.ensures ∙ c.if-not-sound_link.true)

pub loop-j-preserved : goal.loop-j-preserved
loop-j-preserved c = passed_next c.loop-j.invariant (omega arith) (sym c.sound_link.ensures ∙ c.if-not-sound_link.false)

pub returns : goal.returns
unfolding sound_dart
returns c = passed_end c.loop-j.invariant (omega arith)
