-- `checker::first_misbuilt` meets its contract: each search's answer is the definition's; where every link leads back, 6 needs no search. Assumes nothing.
-- What several answers name by the same `let` is what one call answered: as a lemma it would be no shorter.
use mathlib.Core.Path.{refl, sym, ◌∙◌}
use native.Mathlib.Omega.{arith}
use Rattle.rules.specs.Refusals.{number_of}
use Rattle.rules.proofs.Lists.{found_is, found_not}
use Rattle.rules.proofs.Places.{nth_rank, nth_dart}
use Rattle.checker.proofs.Verdicts.{misbuilt_6, misbuilt_7, misbuilt_8, misbuilt_none, twisted_inside, place_small}
use Rattle.checker.proofs.first_misbuilt.Goals as goal

pub place-requires : goal.place-requires
place-requires c =
    let (e, h) = found_is _ _ _ (sym c.first_outside.ensures ∙ c.in-Some-first_outside.is) in
    (nth_rank c.args.map.now.dim _ _ c.args.map.now.limits.darts.0 (omega (arith, e, h)), nth_dart _ _ c.args.map.now.limits.darts.0)

pub overflow_cast-result : goal.overflow_cast-result
overflow_cast-result c =
    let r = c.args.map.now.limits in
    let (e, h) = found_is _ _ _ (sym c.first_outside.ensures ∙ c.in-Some-first_outside.is) in
    omega (arith, place_small _ _ _ _ r.dims.1 r.darts.1 r.darts.0 (omega (arith, e, h)) c.place.ensures)

pub returns-in-Some-first_outside : goal.returns-in-Some-first_outside
unfolding number_of
returns-in-Some-first_outside c =
    let (e, h) = found_is _ _ _ (sym c.first_outside.ensures ∙ c.in-Some-first_outside.is) in
    misbuilt_6 _ _ _ _ _ e (omega (arith, e, h)) c.place.ensures

pub place-requires-in-Some : goal.place-requires-in-Some
place-requires-in-Some c =
    let (e, h) = found_is _ _ _ (sym c.first_twisted.ensures ∙ c.in-Some.is) in
    (nth_rank c.args.map.now.dim _ _ c.args.map.now.limits.darts.0 (omega (arith, e, h)), nth_dart _ _ c.args.map.now.limits.darts.0)

pub overflow_cast-result-in-Some : goal.overflow_cast-result-in-Some
overflow_cast-result-in-Some c =
    let r = c.args.map.now.limits in
    let (e, h) = found_is _ _ _ (sym c.first_twisted.ensures ∙ c.in-Some.is) in
    omega (arith, place_small _ _ _ _ r.dims.1 r.darts.1 r.darts.0 (omega (arith, e, h)) c.place-in-Some.ensures)

pub returns-in-Some : goal.returns-in-Some
unfolding number_of
returns-in-Some c =
    let (e, h) = found_is _ _ _ (sym c.first_twisted.ensures ∙ c.in-Some.is) in
    let none = found_not _ _ (sym c.first_outside.ensures ∙ c.in_default-first_outside.is) in
    misbuilt_7 _ _ _ _ refl none _ _ e (omega (arith, e, h)) c.place-in-Some.ensures

pub first_broken-requires : goal.first_broken-requires
first_broken-requires c =
    let r = c.args.map.now.limits in
    twisted_inside _ _ _ r.darts.0 r.darts.1 _ refl (found_not _ _ (sym c.first_twisted.ensures ∙ c.in_default.is))

pub overflow_cast-result-in-Some-first_broken : goal.overflow_cast-result-in-Some-first_broken
overflow_cast-result-in-Some-first_broken c =
    let (e, h) = found_is _ _ _ (sym c.first_broken.ensures ∙ c.in-Some-first_broken.is) in
    omega (arith, e, h, c.args.map.now.limits.darts.1)

pub returns-in-Some-first_broken : goal.returns-in-Some-first_broken
unfolding number_of
returns-in-Some-first_broken c =
    let r = c.args.map.now.limits in
    let (e, h) = found_is _ _ _ (sym c.first_broken.ensures ∙ c.in-Some-first_broken.is) in
    let none = found_not _ _ (sym c.first_twisted.ensures ∙ c.in_default.is) in
    misbuilt_8 _ _ _ r.darts.0 r.darts.1 _ refl none _ e (omega (arith, e, h))

pub returns : goal.returns
returns c =
    let r = c.args.map.now.limits in
    let none = found_not _ _ (sym c.first_twisted.ensures ∙ c.in_default.is) in
    let whole = found_not _ _ (sym c.first_broken.ensures ∙ c.in_default-first_broken.is) in
    misbuilt_none _ _ _ r.darts.0 r.darts.1 _ refl none _ refl whole
