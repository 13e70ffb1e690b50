-- `faces::checked` meets its contract: the check's verdict as a face file's answer. Assumes nothing.
use Rattle.shapes.specs.Faces.{faces_answer_of}
use Rattle.faces.proofs.Calls.{answer_exit}
use Rattle.faces.proofs.checked.Goals as goal

pub returns-in_err-checked : goal.returns-in_err-checked
unfolding faces_answer_of
returns-in_err-checked c = (rw (← c.in_err-checked.ensures.0) (answer_exit _ _ c.from_residual.ensures.1), c.checked.ensures.1)

pub returns : goal.returns
unfolding faces_answer_of
returns c = (rw (← c.in_ok-checked.ensures.0), c.checked.ensures.1)
