-- `stored::narrow_in` meets its contract: the library's conversion, by its answer. Assumes nothing.
use Prim.Native.Nat.{ℕ, ◌<◌}
use mathlib.Core.Path.{◌≡◌, ◌∙◌}
use Rattle.std.specs.Prelude.{Result, Ok, Err}
use Rattle.std.specs.Result.{OkIff, result_ok}
use Rattle.stored.specs.Layout.{narrow_in}
use Rattle.stored.proofs.Laws.{narrow_few, narrow_many}
use Rattle.stored.proofs.narrow_in.Goals as goal

converted : {E : Type 0} (r : Result ℕ E) (n : ℕ) → OkIff r (n < 65536) n → result_ok r ≡ narrow_in n
converted (Ok x) n (h, e) = rw e (narrow_few n h)
converted (Err e) n h = narrow_many n h

pub returns : goal.returns
returns c = c.ok.ensures.value ∙ converted c.try_from.result c.args.n c.try_from.ensures
