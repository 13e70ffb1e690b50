-- `faces::too_many` meets its contract. Assumes nothing.
use Rattle.faces.proofs.Calls.{post_29, post_flaw, post_many, past_first}
use Rattle.faces.proofs.too_many.Goals as goal

pub returns-then-x-p : goal.returns-then-x-p
returns-then-x-p c = post_29 c.requires.0 _ _ c.third_use-x.ensures c.if-x-p.true c.face_of.ensures

pub returns-in-Some : goal.returns-in-Some
returns-in-Some c = rw c.from.ensures (post_flaw c.requires.0 (past_first _ _ _ c.third_use-x.ensures c.if-x-p.false) _ c.in-Some.is)

pub returns-in-None : goal.returns-in-None
returns-in-None c = post_many c.requires.0 (past_first _ _ _ c.third_use-x.ensures c.if-x-p.false) c.in-None.is c.requires.1
