-- `steps::partner` meets its contract: the test of the link itself comes first. Assumes nothing.
use Rattle.steps.specs.Partners.{told_partner}
use Rattle.steps.proofs.Partners.{partner_known, partner_other}
use Rattle.steps.proofs.partner.Goals as goal

pub returns-then-known_link : goal.returns-then-known_link
returns-then-known_link c =
    let a = c.args in
    let f = c.known_link in
    partner_known a.map.now.dim a.map.now.darts a.map.now.tables.now a.j a.b.0 f.result.0 f.ensures c.if-known_link.true

pub returns : goal.returns
returns c =
    let a = c.args in
    let f = c.known_link in
    partner_other a.map.now.dim a.map.now.darts a.map.now.tables.now a.j a.b.0 f.result.0 f.ensures c.if-known_link.false (told_partner c.deduce.result)
    c.deduce.ensures
