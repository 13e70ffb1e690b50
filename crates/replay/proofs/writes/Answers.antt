-- `replay::writes` meets its contract: each answer is the case of the definition that the tests before it leave. Assumes nothing.
use mathlib.Core.Path.{sym, ◌∙◌}
use native.Mathlib.Omega.{arith}
use Rattle.tables.specs.Maps.{of}
use Rattle.walk.proofs.Laws.{Looked}
use Rattle.replay.proofs.Laws.{writes_known, writes_unknown, writes_deduced, writes_border, writes_new, writes_index}
use Rattle.replay.proofs.writes.Goals as goal
use Rattle.replay.proofs.writes.Goals.{After-number_of-e}

-- what the calls looked up, of which every answer speaks
looked : (c : After-number_of-e) → let a = c.args in
    of Looked a.valid.now.map a.work.now a.j a.position c.dart_of-d.result c.partner_of-x.result c.number_of-e.result
looked c = record { dart = c.dart_of-d.ensures; partner = c.partner_of-x.ensures; number = c.number_of-e.ensures }

pub returns-then-e-position : goal.returns-then-e-position
returns-then-e-position c = writes_known (looked (goal.at.returns-then-e-position c).After-number_of-e) c.requires.3 _ c.if-e-position.true

pub deduced-requires : goal.deduced-requires
deduced-requires c =
    let found = looked (goal.at.deduced-requires c).After-number_of-e in
    let p = c.requires in
    (p.0, omega arith, rw found.dart p.2, writes_unknown found p.3 c.if-e-position.false)

pub returns-then-deduced : goal.returns-then-deduced
returns-then-deduced c =
    writes_deduced (looked (goal.at.returns-then-deduced c).After-number_of-e) c.requires.3 _ c.if-e-position.false c.deduced.ensures c.if-deduced.true

pub returns-then-eq : goal.returns-then-eq
returns-then-eq c =
    writes_border (looked (goal.at.returns-then-eq c).After-number_of-e) c.requires.3 _ c.if-e-position.false c.deduced.ensures c.if-deduced.false
    (sym c.eq.ensures ∙ c.if-eq.true)

pub returns-then-count-e : goal.returns-then-count-e
returns-then-count-e c =
    writes_new (looked (goal.at.returns-then-count-e c).After-number_of-e) c.requires.3 _ c.if-e-position.false c.deduced.ensures c.if-deduced.false
    (sym c.eq.ensures ∙ c.if-eq.false) c.if-count-e.true

pub returns : goal.returns
returns c =
    writes_index (looked (goal.at.returns c).After-number_of-e) c.requires.3 _ c.if-e-position.false c.deduced.ensures c.if-deduced.false
    (sym c.eq.ensures ∙ c.if-eq.false) c.if-count-e.false
