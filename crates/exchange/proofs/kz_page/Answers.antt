-- `exchange::kz_page` meets its contract: 19 where no session stands for the record, else the page on that session, as stored. Assumes nothing.
use Prim.Native.Nat.{ℕ}
use mathlib.Core.Path.{refl, sym}
use mathlib.Core.List.{List}
use Rattle.rules.specs.Map.{by_dart}
use Rattle.rules.specs.Refusals.{number_of}
use Rattle.rules.specs.Reading.{plain_answer}
use Rattle.rules.specs.Fetch.{page_call}
use Rattle.stored.specs.Answers.{page_numbers}
use Rattle.exchange.specs.Rooms.{page_stored, page_lent}
use Rattle.exchange.proofs.Laws.{not_standing, by_session, page_stored_lem}
use Rattle.exchange.proofs.kz_page.Goals as goal

-- the answer where no session stands for the record
abbrev unfit : List ℕ
unfit = page_numbers (record { reading = plain_answer 19 0; fetch = 0 })

pub returns-in_default : goal.returns-in_default
unfolding page_lent plain_answer number_of
returns-in_default c =
    let a = c.args in
    not_standing (λ s. page_stored (page_call by_dart s a.bytes.now a.tables.now)) unfit a.kept.now a.tables.now
    c.in_default.ensures c.unfit_page_numbers.ensures (sym c.number.ensures)

pub returns : goal.returns
unfolding page_lent
returns c =
    let a = c.args in
    let e = page_stored_lem _ _ _ c.page-p.ensures c.stored_session.ensures c.page_numbers.ensures in (
      by_session (λ s. page_stored (page_call by_dart s a.bytes.now a.tables.now)) unfit a.kept.now a.tables.now c.in-Some.ensures _ e,
      rw c.page_numbers.ensures refl,
    )
