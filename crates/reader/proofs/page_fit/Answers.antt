-- `reader::page_fit` meets its contract: by the state. Assumes nothing.
use mathlib.Core.Logic.{inl, inr}
use Rattle.rules.specs.Refusals.{number_of}
use Rattle.rules.specs.Session.{page_as}
use Rattle.records.proofs.Fetches.{fetches_at}
use Rattle.reader.proofs.Laws.{page_by, header_bits, running_ready, complete_limits, unchanged_left, unchanged_number, state_none, complete_wants}
use Rattle.reader.proofs.page_fit.Goals as goal

pub page_header-requires : goal.page_header-requires
page_header-requires c = header_bits c.args.s c.args.tables.now c.well_formed.0.1.1.1.1.1.1.0.1.0.1 c.requires c.in-Header.is

pub page_running-requires : goal.page_running-requires
page_running-requires c = running_ready c.args.s c.args.tables.now c.well_formed.0.1.1.1.1.1.1.0.1.0.1 c.requires _ c.in-Running.is

pub page_complete-requires : goal.page_complete-requires
page_complete-requires c = complete_limits c.args.s c.args.tables.now c.well_formed.0.1.1.1.1.1.1.0.1.0.1 c.requires c.in-Complete.is

pub returns-in-Header : goal.returns-in-Header
unfolding page_as
returns-in-Header c = let e = c.page_header.ensures in record { left = page_by c.args.s _ c.in-Header.is _ e.left; fetch = e.fetch }

pub returns-in-Running : goal.returns-in-Running
unfolding page_as
returns-in-Running c = let e = c.page_running.ensures in record { left = page_by c.args.s _ c.in-Running.is _ e.left; fetch = e.fetch }

pub returns-in-Complete : goal.returns-in-Complete
unfolding page_as
returns-in-Complete c =
    let e = c.page_complete.ensures in
    fetches_at _ _ _ _ c.asking.ensures (page_by c.args.s _ c.in-Complete.is _ e) (complete_wants _ _ _ _ _ e)

pub returns-in-Closed : goal.returns-in-Closed
unfolding page_as number_of
returns-in-Closed c =
    let q = c.in-Closed.is in
    let e = c.unchanged.ensures in
    fetches_at _ _ _ _ c.asking-in-Closed.ensures (page_by c.args.s _ q _ (unchanged_number _ c.args.s _ _ _ c.number.ensures e.0 e.1)) (state_none c.args.s _ e.0 (inl q))

pub returns-in-Refused : goal.returns-in-Refused
unfolding page_as
returns-in-Refused c =
    let q = c.in-Refused.is in
    let e = c.unchanged-in-Refused.ensures in
    fetches_at _ _ _ _ c.asking-in-Refused.ensures (page_by c.args.s _ q _ (unchanged_left _ c.args.s _ _ e.0 e.1)) (state_none c.args.s _ e.0 (inr (_, _, q)))
