-- `report::tally_at` meets its contract: after d turns the links of the first d darts are counted with those of the ranks below. Assumes nothing.
use Prim.Native.Nat.{ℕ, ◌*◌, ◌≤◌, ◌<◌}
use mathlib.Core.Path.{◌≡◌, ap, ◌∙◌}
use native.Mathlib.Omega.{arith}
use native.Mathlib.Nat.{mul-le-mul}
use lib.ListN.{length, get_or}
use Rattle.rules.specs.Map.{by_dart, place}
use Rattle.tables.proofs.Laws.{place_within}
use Rattle.report.proofs.Tallies.{counted_le, entry_below, alike_yes, alike_no, free_yes, free_no}
use Rattle.report.proofs.tally_at.Goals as goal
use Rattle.report.proofs.tally_at.Goals.{In-loop-d, After-place, else-work-d, else-x-d, then-work-d, then-x-d}

-- the place is within the tables, and the entry that is read there is the link, so a dart
placed : (c : After-place) → c.place.result < length c.args.valid.now.map.tables.now
placed c = let m = c.args.valid.now.map in rw c.place.ensures (place_within _ _ _ _ _ m.limits c.requires.1 c.loop-d-test.true)

entry : (c : After-place) → let m = c.args.valid.now.map in
    get_or m.tables.now c.place.result 0 ≡ get_or m.tables.now (place by_dart m.dim m.darts c.args.rank c.loop-d.d) 0
entry c = ap (λ (x : ℕ). get_or c.args.valid.now.map.tables.now x 0) c.place.ensures

inside : (c : After-place) → get_or c.args.valid.now.map.tables.now c.place.result 0 < c.args.valid.now.map.darts
inside c =
    let v = c.args.valid.now in
    entry_below _ _ _ c.args.work.now _ _ _ v.map.limits c.requires.1 c.loop-d-test.true (entry c) v.valid

-- so many links there are not
few : (c : In-loop-d) → (c.loop-d.alike < 65535) × (c.loop-d.free < 65535)
few c =
    let i = c.args.rank in
    let m = c.args.valid.now.map in
    let d = m.limits.darts.1 in
    let (x, y) = counted_le c.loop-d.invariant in
    let r : i ≤ 6 = omega (arith, c.requires.1, m.limits.dims.1) in
    let b : i * m.darts ≤ 6 * 4096 = mul-le-mul {n₁ = i} {m₁ = m.darts} {n₂ = 6} {m₂ = 4096} r d in
    (omega (arith, x, d), omega (arith, y, d))

pub offset_bounds-map-place : goal.offset_bounds-map-place
offset_bounds-map-place c = omega (arith, placed (goal.at.offset_bounds-map-place c).After-place)

pub bounds-map-place : goal.bounds-map-place
bounds-map-place c = omega (arith, placed (goal.at.bounds-map-place c).After-place)

pub overflow_add-free : goal.overflow_add-free
overflow_add-free c = omega (arith, (few (goal.at.overflow_add-free c).In-loop-d).1)

pub bounds-work-x : goal.bounds-work-x
bounds-work-x c = omega (arith, inside (goal.at.bounds-work-x c).After-place)

pub overflow_add-alike : goal.overflow_add-alike
overflow_add-alike c = omega (arith, (few (goal.at.overflow_add-alike c).In-loop-d).0)

pub loop-d-preserved : goal.loop-d-preserved
loop-d-preserved c =
    let L = c.args.valid.now.map.limits in
    let r = c.requires.1 in
    let h = c.loop-d-test.true in
    let e = entry (goal.at.loop-d-preserved c).After-place in
    let m = c.loop-d.invariant in
    record {
      near = elim c.if-work-d.branch [
        | then-work-d w ↦ w.alike-is ∙ alike_yes _ _ _ _ _ c.loop-d.d _ L r h e c.loop-d.alike w.if-work-d.true m.near
        | else-work-d w ↦ w.alike-is ∙ alike_no _ _ _ _ _ c.loop-d.d _ L r h e c.loop-d.alike w.if-work-d.false m.near
      ];
      still = elim c.if-x-d.branch [
        | then-x-d w ↦ w.free-is
            ∙ free_yes _ _ _ c.args.work.now _ c.loop-d.d _ L r h e c.loop-d.free w.if-x-d.true m.still
        | else-x-d w ↦ w.free-is
            ∙ free_no _ _ _ c.args.work.now _ c.loop-d.d _ L r h e c.loop-d.free w.if-x-d.false m.still
      ];
    }
