-- `fitness::all_fit` meets its contract: `bad` counts the entries so far that do not fit, so it is 0 where all of them do. Assumes nothing.
use Prim.Native.Nat.{ℕ, ◌≤◌}
use mathlib.Core.Path.{◌≡◌}
use mathlib.Core.Bool.{Bool}
use lib.Dec.{eqb}
use lib.ListN.{take}
use Rattle.std.specs.List.{list_all}
use Rattle.fitness.proofs.all_fit.Given as goal

abbrev pub invariant-loop-x : goal.invariant-loop-x
invariant-loop-x g l = record {
  few : l.bad ≤ l.x-index;
  told : (test : ℕ → Bool) → ((x : ℕ) (b : Bool) → goal.F-post g l.fits x b → b ≡ test x) → eqb l.bad 0 ≡ list_all test (take l.x-index l.entries);
}
