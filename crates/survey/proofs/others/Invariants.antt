-- `survey::others` meets its contract: own is the last corner read, worst what the corners up to it say. Assumes nothing.
use Rattle.survey.proofs.Looks.{Looking}
use Rattle.survey.proofs.others.Given as goal

abbrev pub invariant-loop : goal.invariant-loop
invariant-loop l = Looking l.start l.count l.vertices l.first l.initial.worst l.worst l.own l.p l.counter
