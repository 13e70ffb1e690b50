-- `faces::outcome` meets its contract. Assumes nothing.
use Rattle.faces.proofs.Calls.{answer_exit, outline_good, post_26}
use Rattle.faces.proofs.outcome.Goals as goal

pub returns-in_err-p : goal.returns-in_err-p
returns-in_err-p c = rw (answer_exit _ _ c.from_residual.ensures.1) ((post_26 _ _ c.in_err-p.ensures.plan).is _ _)

pub too_many-requires : goal.too_many-requires
too_many-requires c = (rw c.in_ok-p.ensures.text (outline_good _ _ c.in_ok-p.ensures.plan), c.if-p-gt-BLOCK.true)

pub posted-requires : goal.posted-requires
posted-requires c = (rw c.in_ok-p.ensures.text (outline_good _ _ c.in_ok-p.ensures.plan), c.if-p-gt-BLOCK.false)
