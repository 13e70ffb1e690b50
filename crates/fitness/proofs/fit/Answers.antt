-- `fitness::fit` meets its contract: by the state. Assumes nothing.
use Rattle.fitness.proofs.Laws.{fit_header_lem, fit_running, fit_complete, fit_closed, fit_refused_lem}
use Rattle.fitness.proofs.fit.Goals as goal

pub returns-in-Header : goal.returns-in-Header
returns-in-Header c = fit_header_lem _ _ c.in-Header.is _ c.header_fits.ensures

pub returns-in-Running : goal.returns-in-Running
returns-in-Running c = fit_running _ _ c.in-Running.is _ c.running_fits.ensures

pub returns-in-Complete : goal.returns-in-Complete
returns-in-Complete c = fit_complete _ _ c.in-Complete.is _ c.complete_fits.ensures

pub returns-in-Closed : goal.returns-in-Closed
returns-in-Closed c = fit_closed _ _ c.in-Closed.is

pub returns-in-Refused : goal.returns-in-Refused
returns-in-Refused c = fit_refused_lem _ _ _ _ c.in-Refused.is _ c.refused_fits.ensures
