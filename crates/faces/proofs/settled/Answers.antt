-- `faces::settled` meets its contract: the flaw, the sizes, or the map and its check. Assumes nothing.
use mathlib.Core.Path.{◌≡◌, refl}
use Rattle.std.specs.Prelude.{Option, Some, None}
use Rattle.survey.specs.declared.Flaw.{Flaw}
use Rattle.faces.proofs.Answers.{misfit_none}
use Rattle.faces.proofs.Calls.{answer_exit, settles_flaw, settles_misfit, settles_built}
use Rattle.faces.proofs.settled.Goals as goal

none_left : (o : Option Flaw) → ((x : Flaw) → o ≡ Some x → ⊥) → o ≡ None
none_left None f = refl
none_left (Some x) f = absurd (f x refl)

pub returns-in-Some : goal.returns-in-Some
returns-in-Some c = rw c.from.ensures (settles_flaw _ _ _ _ _ _ _ c.in-Some.is)

pub returns-in_err-fit : goal.returns-in_err-fit
returns-in_err-fit c =
    rw (answer_exit _ _ c.from_residual.ensures.1)
    (settles_misfit _ _ _ _ _ _ (none_left _ c.in_default.not-Some) c.requires.0 _ c.in_err-fit.ensures)

pub build-requires : goal.build-requires
build-requires c = (c.requires.1 (none_left _ c.in_default.not-Some), (misfit_none _ _ _ c.in_ok-fit.ensures).entries)

pub returns : goal.returns
returns c =
    settles_built _ _ _ _ _ _ (none_left _ c.in_default.not-Some) c.requires.0 _ _ _ c.in_ok-fit.ensures
    c.build.ensures c.checked.ensures.0 c.checked.ensures.1
