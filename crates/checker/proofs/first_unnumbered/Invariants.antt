-- `checker::first_unnumbered` meets its contract: the search has come to d, and every dart before it has a number. Assumes nothing.
use Rattle.rules.proofs.Lists.{Sought}
use Rattle.checker.specs.Parts.{numberless}
use Rattle.checker.proofs.first_unnumbered.Given as goal

abbrev pub invariant-loop-d : goal.invariant-loop-d
invariant-loop-d l = Sought (numberless l.work) l.darts l.d
