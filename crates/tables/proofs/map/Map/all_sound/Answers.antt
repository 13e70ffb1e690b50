-- `Map::all_sound` meets its contract: every dart before d passes. Assumes nothing.
use mathlib.Core.Path.{sym, ◌∙◌}
use native.Mathlib.Omega.{arith}
use Rattle.rules.proofs.Lists.{passed_start, passed_next, passed_end, fails_at}
use Rattle.tables.proofs.map.Map.all_sound.Goals as goal

pub loop-d-init : goal.loop-d-init
loop-d-init c = passed_start _ _

pub overflow_cast-d : goal.overflow_cast-d
overflow_cast-d c = omega (arith, c.args.self.now.limits.darts.1)

pub sound_dart-requires : goal.sound_dart-requires
sound_dart-requires c = omega arith

pub returns-then-not-sound_dart : goal.returns-then-not-sound_dart
returns-then-not-sound_dart c = fails_at _ _ c.loop-d.d (omega arith) (sym c.sound_dart.ensures ∙ c.if-not-sound_dart.true)

pub loop-d-preserved : goal.loop-d-preserved
loop-d-preserved c = passed_next c.loop-d.invariant (omega arith) (sym c.sound_dart.ensures ∙ c.if-not-sound_dart.false)

pub returns : goal.returns
returns c = passed_end c.loop-d.invariant (omega arith)
