-- `faces::posted` meets its contract. Assumes nothing.
-- What several answers name by the same `let` is what one call answered: as a lemma it would be no shorter.
use Rattle.faces.proofs.Calls.{post_29, past_first, loaded_kept, post_lefts}
use Rattle.faces.proofs.posted.Goals as goal

pub returns-then-l-p : goal.returns-then-l-p
returns-then-l-p c =
    let l = rw (c.begin.ensures.text, c.begin.ensures.spot) at c.load-l.ensures.corners in
    (post_29 c.requires.0 _ _ l.0 c.if-l-p.true c.face_of.ensures).is _ _

pub settled-requires : goal.settled-requires
settled-requires c =
    let l = rw (c.begin.ensures.text, c.begin.ensures.spot) at c.load-l.ensures.corners in (
      c.requires.1,
      λ z. post_lefts c.requires.0 (past_first _ _ _ l.0 c.if-l-p.false) z c.requires.1 (loaded_kept _ _ _ _ _ _ _ l c.if-l-p.false),
    )

pub returns : goal.returns
returns c =
    let l = rw (c.begin.ensures.text, c.begin.ensures.spot) at c.load-l.ensures.corners in
    c.settled.ensures.is _ c.requires.0 (past_first _ _ _ l.0 c.if-l-p.false) (loaded_kept _ _ _ _ _ _ _ l c.if-l-p.false)
