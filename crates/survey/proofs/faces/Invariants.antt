-- `survey::faces` meets its contract: k faces are read, and s is what they say. Assumes nothing.
use Rattle.survey.proofs.Looks.{Surveying}
use Rattle.survey.proofs.faces.Given as goal

abbrev pub invariant-loop-k : goal.invariant-loop-k
invariant-loop-k l = Surveying l.start l.count l.vertices l.s l.p l.k
