-- `stored::stored_session` meets its contract: the numbers of the record in their order. Assumes nothing.
use mathlib.Core.Path.{◌≡◌}
use lib.ListN.{length}
use Rattle.stored.proofs.Laws.{stored_by}
use Rattle.stored.proofs.stored_session.Goals as goal

pub returns : goal.returns
returns c =
    let seven-given : length c.args.s.positions ≡ 7 =
    c.well_formed.0.1.1.1.1.1.1.0.1.0.1 in
    stored_by c.args.s seven-given _ _ _ _ _ _ _ _ _ c.state_numbers.ensures c.stored_positions-p.ensures c.from.ensures c.from-2.ensures c.from-3.ensures
    c.from-4.ensures c.from-5.ensures c.form_number.ensures c.from-6.ensures
