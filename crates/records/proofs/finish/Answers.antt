-- `records::finish` meets its contract: 15 or 30, 16, 17 and 18 in their order. Assumes nothing.
use Prim.Native.Nat.{◌≤◌, ◌<◌}
use mathlib.Core.Bool.{not}
use mathlib.Core.Path.{◌≡◌, refl, ap, sym, ◌∙◌}
use native.Mathlib.Omega.{arith}
use Rattle.rules.specs.Map.{by_dart, pairs_of, first_broken}
use Rattle.rules.specs.Refusals.{number_of}
use Rattle.rules.specs.Lists.{found}
use Rattle.rules.proofs.Pairs.{first_broken_le}
use Rattle.records.proofs.Lefts.{complete_left, found_whole, end_bodies, end_16, end_17, end_18, end_complete}
use Rattle.records.proofs.finish.Goals as goal
use Rattle.records.proofs.finish.Goals.{Else-is_some}

pub returns-then-not-bodies_found : goal.returns-then-not-bodies_found
returns-then-not-bodies_found c =
    end_bodies _ _ _ _ _ _ _ _ c.bodies_found.ensures (ap not c.if-not-bodies_found.true) _ (c.number.ensures ∙ c.end_reason.ensures)
    c.spoiled.ensures

-- no condition is broken: by whatever the test is made of, here and where it holds, so that an edit of it is judged by what it means
whole : (c : Else-is_some) → let a = c.args in first_broken by_dart a.dim a.darts a.tables.now (pairs_of a.dim) ≡ a.darts
unfolding found
whole c =
    let a = c.args in
    let h : a.darts ≤ first_broken by_dart a.dim a.darts a.tables.now (pairs_of a.dim) = grind arith in
    omega (arith, h, first_broken_le by_dart a.dim a.darts a.tables.now (pairs_of a.dim))

pub first_broken-requires : goal.first_broken-requires
first_broken-requires c =
    let p = c.requires in
    p.inside (found_whole _ _ _ _ (sym c.bodies_found.ensures ∙ c.if-not-bodies_found.false) p.whole)

pub returns-then-is_some : goal.returns-then-is_some
unfolding number_of found
returns-then-is_some c =
    let a = c.args in
    let h : first_broken by_dart a.dim a.darts a.tables.now (pairs_of a.dim) < a.darts = grind arith in
    end_16 _ _ _ _ _ _ _ _ c.bodies_found.ensures (ap not c.if-not-bodies_found.false) _ refl (λ e. omega (arith, e, h))
    (rw c.number-then-is_some.ensures at c.spoiled-then-is_some.ensures)

pub returns-then-fill_set : goal.returns-then-fill_set
unfolding number_of
returns-then-fill_set c =
    end_17 _ _ _ _ _ _ _ _ c.bodies_found.ensures (ap not c.if-not-bodies_found.false) _ refl (whole (goal.at.returns-then-fill_set c).Else-is_some)
    _ c.fill_set.ensures c.if-fill_set.true (rw c.number-then-fill_set.ensures at c.spoiled-then-fill_set.ensures)

pub returns-then-byte_after : goal.returns-then-byte_after
unfolding number_of
returns-then-byte_after c =
    end_18 _ _ _ _ _ _ _ _ c.bodies_found.ensures (ap not c.if-not-bodies_found.false) _ refl (whole (goal.at.returns-then-byte_after c).Else-is_some)
    _ c.fill_set.ensures c.if-fill_set.false _ c.byte_after.ensures c.if-byte_after.true
    (rw c.number-then-byte_after.ensures at c.spoiled-then-byte_after.ensures)

pub returns : goal.returns
returns c =
    end_complete _ _ _ _ _ _ _ _ c.bodies_found.ensures (ap not c.if-not-bodies_found.false) _ refl (whole (goal.at.returns c).Else-is_some)
    _ c.fill_set.ensures c.if-fill_set.false _ c.byte_after.ensures c.if-byte_after.false
    (complete_left _ _ _ _ _ c.held.ensures.1 c.held.ensures.0)
