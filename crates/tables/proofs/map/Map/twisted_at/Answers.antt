-- `Map::twisted_at` meets its contract: the search has come to d, and the link of every dart before it leads back. Assumes nothing.
use native.Mathlib.Omega.{arith}
use Rattle.rules.proofs.Lists.{sought_start, sought_next, sought_found, sought_past}
use Rattle.tables.proofs.Laws.{place_within, entry_link, twisted_none, twisted_yes, twisted_no}
use Rattle.tables.proofs.map.Map.twisted_at.Goals as goal

pub loop-d-init : goal.loop-d-init
loop-d-init c = sought_start _ _

pub place-requires : goal.place-requires
place-requires c = omega arith

pub offset_bounds-self-place : goal.offset_bounds-self-place
offset_bounds-self-place c = omega (arith, place_within _ _ _ _ _ c.args.self.now.limits c.requires c.loop-d-test.true)

pub bounds-self-place : goal.bounds-self-place
bounds-self-place c = omega (arith, place_within _ _ _ _ _ c.args.self.now.limits c.requires c.loop-d-test.true)

pub returns-then-self-x : goal.returns-then-self-x
returns-then-self-x c =
    let h = c.loop-d-test.true in
    sought_found c.loop-d.invariant h
    (twisted_none _ _ _ _ _ _ h (rw c.place.ensures (entry_link _ _ _ _ _ c.args.self.now.limits c.requires h)) (omega arith) c.if-self-x.true)

pub place-requires-in-loop-d : goal.place-requires-in-loop-d
place-requires-in-loop-d c = omega arith

pub offset_bounds-self-place-in-loop-d : goal.offset_bounds-self-place-in-loop-d
offset_bounds-self-place-in-loop-d c = omega (arith, place_within _ _ _ _ _ c.args.self.now.limits c.requires c.if-self-x.false)

pub bounds-self-place-in-loop-d : goal.bounds-self-place-in-loop-d
bounds-self-place-in-loop-d c = omega (arith, place_within _ _ _ _ _ c.args.self.now.limits c.requires c.if-self-x.false)

pub returns-then-self-place : goal.returns-then-self-place
returns-then-self-place c =
    let h = c.loop-d-test.true in
    let e = rw (← c.place.ensures) at (entry_link _ _ _ _ _ c.args.self.now.limits c.requires h) in
    let q = rw (← c.place-in-loop-d.ensures) at (entry_link _ _ _ _ _ c.args.self.now.limits c.requires c.if-self-x.false) in
    sought_found c.loop-d.invariant h
    (twisted_yes _ _ _ _ _ _ h e _ q c.if-self-place.true)

pub loop-d-preserved : goal.loop-d-preserved
loop-d-preserved c =
    let h = c.loop-d-test.true in
    let e = rw (← c.place.ensures) at (entry_link _ _ _ _ _ c.args.self.now.limits c.requires h) in
    let q = rw (← c.place-in-loop-d.ensures) at (entry_link _ _ _ _ _ c.args.self.now.limits c.requires c.if-self-x.false) in
    sought_next c.loop-d.invariant h
    (twisted_no _ _ _ _ _ _ h e _ q c.if-self-place.false)

pub returns : goal.returns
returns c = sought_past c.loop-d.invariant (omega arith)
