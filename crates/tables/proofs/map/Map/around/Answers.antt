-- `Map::around` meets its contract: the four links in turn, each of a dart. Assumes nothing.
use native.Mathlib.Omega.{arith}
use Rattle.tables.proofs.map.Map.around.Goals as goal

pub link_at-b-requires : goal.link_at-b-requires
link_at-b-requires c =
    let p = c.requires in
    (omega (arith, p.1, p.2), rw c.link_at-a.ensures (p.0.inside _ _ (omega (arith, p.1, p.2)) p.3))

pub link_at-c-requires : goal.link_at-c-requires
link_at-c-requires c =
    let p = c.requires in (
      omega (arith, p.1, p.2),
      rw (c.link_at-b.ensures, c.link_at-a.ensures)
          (p.0.inside _ _ (omega (arith, p.1, p.2)) (p.0.inside _ _ (omega (arith, p.1, p.2)) p.3)),
    )

pub link_at-requires : goal.link_at-requires
link_at-requires c =
    let p = c.requires in (
      omega (arith, p.1, p.2),
      rw (c.link_at-c.ensures, c.link_at-b.ensures, c.link_at-a.ensures)
          (p.0.inside _ _ (omega (arith, p.1, p.2)) (p.0.inside _ _ (omega (arith, p.1, p.2)) (p.0.inside _ _ (omega (arith, p.1, p.2)) p.3))),
    )

pub returns : goal.returns
returns c = rw (c.link_at.ensures, c.link_at-c.ensures, c.link_at-b.ensures, c.link_at-a.ensures)
