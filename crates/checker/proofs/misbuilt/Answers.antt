-- `checker::misbuilt` meets its contract: tables that pass are a valid map's, which has none of these faults. Assumes nothing.
use mathlib.Core.Path.{sym, ◌∙◌}
use Rattle.tables.proofs.Sound.{sound_valid}
use Rattle.checker.proofs.Verdicts.{misbuilt_sound}
use Rattle.checker.proofs.misbuilt.Goals as goal

pub returns-then-all_sound : goal.returns-then-all_sound
returns-then-all_sound c =
    let p = c.args.map.now.limits in
    misbuilt_sound _ _ _ p.dims.1 p.darts.0 p.darts.1 (sound_valid _ _ _ (sym c.all_sound.ensures ∙ c.if-all_sound.true))
