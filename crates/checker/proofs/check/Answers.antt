-- `checker::check` meets its contract: what the parts come to, as an answer. Assumes nothing.
use Rattle.rules.specs.Check.{check_answer, check_answer_of}
use Rattle.checker.proofs.check.Goals as goal

pub returns-in-Ok : goal.returns-in-Ok
unfolding check_answer check_answer_of
returns-in-Ok c = (rw (← c.in-Ok.ensures.0), c.checked.ensures.1)

pub returns-in-Err : goal.returns-in-Err
unfolding check_answer check_answer_of
returns-in-Err c = (rw (c.from.ensures, ← c.in-Err.ensures.0), c.checked.ensures.1)
