-- `exchange::kz_close` meets its contract: 19 where no session stands for the record, else closing that session, as stored. Assumes nothing.
use mathlib.Core.Path.{refl, sym}
use Rattle.rules.specs.Map.{by_dart}
use Rattle.rules.specs.Refusals.{number_of}
use Rattle.rules.specs.Reading.{plain_answer}
use Rattle.rules.specs.Session.{close}
use Rattle.records.specs.Lefts.{left_by}
use Rattle.stored.specs.Answers.{read_numbers}
use Rattle.exchange.specs.Rooms.{stored, close_lent}
use Rattle.exchange.proofs.Laws.{not_standing, by_session, close_stored}
use Rattle.exchange.proofs.kz_close.Goals as goal

pub returns-in_default : goal.returns-in_default
unfolding close_lent plain_answer number_of
returns-in_default c =
    let a = c.args in
    not_standing (λ s. stored (close by_dart s a.tables.now)) (read_numbers (plain_answer 19 0)) a.kept.now a.tables.now
    c.in_default.ensures c.unfit_numbers.ensures (sym c.number.ensures)

pub returns : goal.returns
unfolding close_lent left_by
returns c =
    let a = c.args in
    let e = close_stored _ _ _ c.close-p.ensures c.stored_session.ensures c.read_numbers.ensures in (
      by_session (λ s. stored (close by_dart s a.tables.now)) (read_numbers (plain_answer 19 0)) a.kept.now a.tables.now c.in-Some.ensures _ e,
      rw c.read_numbers.ensures refl,
    )
