-- `text::line_end` meets its contract: no LF up to p. Assumes nothing.
use lib.ListN.{length, get_or}
use lib.Dec.{eqb}
use Prim.Native.Nat.{◌≤◌, max}
use Rattle.text.proofs.Laws.{Gone}
use Rattle.text.proofs.line_end.Given as goal

abbrev pub invariant-loop-p : goal.invariant-loop-p
invariant-loop-p l = Gone (λ k. eqb (get_or l.text k 0) 10) (length l.text) l.at l.p × (l.p ≤ max l.at (length l.text))
