-- `fitness::asks` meets its contract: the lowest queue, and the case of its head. Assumes nothing.
use Rattle.fitness.proofs.Heads.{asks_none, asks_known, asks_deduced, asks_asked}
use Rattle.fitness.proofs.asks.Goals as goal

pub returns-in_default : goal.returns-in_default
returns-in_default c = asks_none _ _ _ _ c.requires c.in_default.ensures

pub returns-in-Known : goal.returns-in-Known
returns-in-Known c = asks_known _ _ _ _ c.requires _ c.in-Some.ensures _ c.partner.ensures c.in-Known.is

pub returns-in-Deduced : goal.returns-in-Deduced
returns-in-Deduced c = asks_deduced _ _ _ _ c.requires _ c.in-Some.ensures _ c.partner.ensures _ c.in-Deduced.is

pub returns-in-Asked : goal.returns-in-Asked
returns-in-Asked c = asks_asked _ _ _ _ c.requires _ c.in-Some.ensures _ c.partner.ensures c.in-Asked.is
