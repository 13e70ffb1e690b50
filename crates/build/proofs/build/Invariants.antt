-- `build::build` meets its contract: the links of the corners done so far stand. Assumes nothing.
use Rattle.build.proofs.Entries.{Building}
use Rattle.build.proofs.build.Given as goal

abbrev pub invariant-loop-k : goal.invariant-loop-k
invariant-loop-k l = Building l.twins l.owns l.lefts l.corners l.initial.tables l.tables l.first l.k
