-- `report::next_body` meets its contract: a body begins at the least dart that has no mark. Assumes nothing.
-- What several answers name by the same `let` is what one call answered: as a lemma it would be no shorter.
use mathlib.Core.Path.{sym, ◌∙◌}
use native.Mathlib.Omega.{arith}
use Rattle.rules.proofs.Lists.{found_is, found_not}
use Rattle.report.proofs.Bodies.{least_below, next_unmarked, next_later, next_spanned}
use Rattle.report.proofs.next_body.Goals as goal

pub span_body-requires : goal.span_body-requires
span_body-requires c =
    let (z, few, S) = c.requires in
    let (e, h) = found_is _ _ _ (sym (rw z at c.first_unmarked.ensures) ∙ c.in-Some.is) in
    (z, next_spanned S few e, next_unmarked S e h)

pub returns : goal.returns
returns c =
    let (z, few, S) = c.requires in
    let (e, h) = found_is _ _ _ (sym (rw z at c.first_unmarked.ensures) ∙ c.in-Some.is) in
    let (stays, next, S') = c.span_body.ensures in
    (stays, omega (arith, next, next_later S e h), S')

pub returns-in_default : goal.returns-in_default
returns-in_default c =
    let (z, few, S) = c.requires in
    let all = found_not _ _ (sym (rw z at c.first_unmarked.ensures) ∙ c.in_default.is) in
    absurd (omega (arith, least_below S.queue few, all))
