-- `checker::misjoined` meets its contract: each form has its own test. Assumes nothing.
use mathlib.Core.Path.{sym, ◌∙◌}
use native.Mathlib.Omega.{arith}
use Rattle.rules.specs.Refusals.{number_of}
use Rattle.rules.proofs.Lists.{found_is, found_not}
use Rattle.checker.proofs.Verdicts.{misjoined_9, joined_one, misjoined_30, joined_several}
use Rattle.checker.proofs.misjoined.Goals as goal

pub overflow_cast-result : goal.overflow_cast-result
overflow_cast-result c =
    let (e, h) = found_is _ _ _ (sym c.first_unnumbered.ensures ∙ c.in-Some.is) in
    omega (arith, e, h, c.requires.1)

pub returns-in-Some : goal.returns-in-Some
unfolding number_of
returns-in-Some c =
    let (e, h) = found_is _ _ _ (sym c.first_unnumbered.ensures ∙ c.in-Some.is) in
    misjoined_9 _ _ _ c.in-One.is _ e (omega (arith, e, h))

pub returns-then-bodies-eq1 : goal.returns-then-bodies-eq1
unfolding number_of
returns-then-bodies-eq1 c = rw c.of.ensures (misjoined_30 _ _ _ c.in-Several.is c.if-bodies-eq1.true)

pub returns-in_default : goal.returns-in_default
returns-in_default c = joined_one _ _ _ c.in-One.is (found_not _ _ (sym c.first_unnumbered.ensures ∙ c.in_default.is))

pub returns-else-bodies-eq1 : goal.returns-else-bodies-eq1
returns-else-bodies-eq1 c = joined_several _ _ _ c.in-Several.is c.if-bodies-eq1.false
