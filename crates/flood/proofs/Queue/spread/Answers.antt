-- `flood::Queue::spread` meets its contract: the two runs are the set. Assumes nothing.
use mathlib.Core.Path.{refl, ◌∙◌}
use native.Mathlib.Omega.{arith}
use Rattle.flood.specs.Flood.{runs}
use Rattle.flood.proofs.Sets.{kept_runs}
use Rattle.flood.proofs.Queues.{extended_class, same_trans}
use Rattle.flood.proofs.Floods.{inside_low, inside_high, spread_join}
use Rattle.flood.proofs.Queue.spread.Goals as goal

pub spread_part-requires : goal.spread_part-requires
spread_part-requires c =
    let p = c.requires in
    (p.0, p.1, p.2, inside_low (runs c.args.low c.args.high) _ _ _ _ p.3, p.4, refl)

pub spread_part-requires-2 : goal.spread_part-requires-2
spread_part-requires-2 c =
    let p = c.requires in
    let (same, S) = c.spread_part.ensures in
    let e = extended_class S.on p.2 p.4 in
    (same.0 ∙ p.0, omega arith, p.2, inside_high (runs c.args.low c.args.high) _ _ _ _ p.3, rw e p.4, rw e refl)

pub returns : goal.returns
returns c =
    let (same, S) = c.spread_part.ensures in
    let (same', S') = c.spread_part-2.ensures in (
      same_trans same same',
      spread_join c.requires.2 c.requires.4 (kept_runs (runs c.args.low c.args.high) c.args.map.now.dim) S S',
    )
