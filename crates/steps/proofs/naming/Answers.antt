-- `steps::naming` meets its contract: the three tests in their order. Assumes nothing.
use mathlib.Core.Path.{sym, ◌∙◌}
use borrow.Author.Tests.{le-leb, lt-leb, eq-eqb, ne_eqb}
use Rattle.rules.specs.Walk.{link_of, unknown}
use Rattle.rules.specs.Naming.{naming}
use Rattle.rules.specs.Session.{walk_at}
use Rattle.steps.proofs.naming.Goals as goal

pub returns-then-count-e : goal.returns-then-count-e
unfolding naming walk_at
returns-then-count-e c = rw (le-leb _ _ c.if-count-e.true)

pub returns-then-e-b : goal.returns-then-e-b
unfolding naming walk_at
returns-then-e-b c = rw (lt-leb _ _ c.if-count-e.false, eq-eqb _ _ c.if-e-b.true)

pub returns-then-known_link : goal.returns-then-known_link
unfolding naming unknown link_of walk_at
returns-then-known_link c =
    let linked = ne_eqb _ _ (λ e. c.if-known_link.true (c.known_link.ensures ∙ e)) in
    rw (lt-leb _ _ c.if-count-e.false, ne_eqb _ _ c.if-e-b.false, linked)

pub returns : goal.returns
unfolding naming unknown link_of walk_at
returns c =
    let open' = eq-eqb _ _ (sym c.known_link.ensures ∙ c.if-known_link.false) in
    rw (lt-leb _ _ c.if-count-e.false, ne_eqb _ _ c.if-e-b.false, open')
