-- `steps::join` meets its contract: both places are within the tables. Assumes nothing.
use native.Mathlib.Omega.{arith}
use lib.ListN.{length-set}
use Rattle.steps.proofs.Steps.{place_room}
use Rattle.steps.proofs.join.Goals as goal

pub offset_bounds-tables-p : goal.offset_bounds-tables-p
offset_bounds-tables-p c =
    let a = c.args in
    let p = c.requires in
    omega (arith, place_room a.dim a.darts a.tables.now a.j a.b.0 p.0 p.1 p.2 c.place-p.result c.place-p.ensures)

pub bounds-tables-p : goal.bounds-tables-p
bounds-tables-p c =
    let a = c.args in
    let p = c.requires in
    omega (arith, place_room a.dim a.darts a.tables.now a.j a.b.0 p.0 p.1 p.2 c.place-p.result c.place-p.ensures)

pub offset_bounds-tables-q : goal.offset_bounds-tables-q
offset_bounds-tables-q c =
    let a = c.args in
    let p = c.requires in
    omega (arith, place_room a.dim a.darts a.tables.now a.j a.e.0 p.0 p.1 p.3 c.place-q.result c.place-q.ensures)

pub bounds-tables-q : goal.bounds-tables-q
bounds-tables-q c =
    let a = c.args in
    let p = c.requires in
    simp length-set
    (omega (arith, place_room a.dim a.darts a.tables.now a.j a.e.0 p.0 p.1 p.3 c.place-q.result c.place-q.ensures))
