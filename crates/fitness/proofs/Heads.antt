-- Does the next step of a walk need a symbol? The lowest queue that isn't empty has its head; the rules' Lowest says so. Rests on the partner of `steps`.
use Prim.Native.Nat.{ℕ, ◌+◌}
use native.Mathlib.Omega.{arith}
use mathlib.Core.Path.{◌≡◌, ap, sym}
use mathlib.Core.Bool.{true, false}
use mathlib.Core.List.{List}
use lib.ListN.{get_or}
use Rattle.rules.specs.Map.{by_dart}
use Rattle.rules.specs.declared.WalkNo.{WalkNo}
use Rattle.rules.specs.declared.Stand.{Stand}
use Rattle.steps.specs.declared.Case.{Case}
use Rattle.steps.specs.declared.Case.TheVariants.{Known, Deduced, Asked}
use Rattle.rules.specs.Walk.{Walk, partner}
use Rattle.rules.specs.Session.{walk_at, needs_symbol, asks}
use Rattle.rules.specs.Inner.{Shape, Emptied, Lowest}
use Rattle.rules.proofs.Lowest.{head_lowest, head_past}
use Rattle.steps.specs.Partners.{looking, told_partner}
use Rattle.steps.proofs.Partners.{partner_looking}
use Rattle.fitness.specs.Parts.{asks_at}

module _ (N n : ℕ) (s : Stand) (t : List ℕ) (v : Shape (walk_at by_dart N n s t)) where
  abbrev w : Walk
  w = walk_at by_dart N n s t

  pub asks_none : Emptied s.count s.positions (N + 1) → false ≡ asks_at w
  unfolding asks walk_at
  asks_none E = rw (head_past w v (N + 1) E (omega arith))

  module _ (j : ℕ) (L : Lowest N s.count s.positions j) (x : Case) (ex : told_partner x ≡ partner (looking by_dart N n t) j (get_or s.positions j 0)) where
    asks_here : needs_symbol (told_partner x) ≡ asks_at w
    unfolding asks walk_at
    asks_here = rw (head_lowest w v j L.lower L.ranked L.some, ex) (ap needs_symbol (sym (partner_looking w j (get_or s.positions j 0))))

    pub asks_known : x ≡ Known → false ≡ asks_at w
    unfolding needs_symbol
    asks_known e = rw e at asks_here

    pub asks_deduced : (b : WalkNo) → x ≡ Deduced b → false ≡ asks_at w
    unfolding needs_symbol
    asks_deduced b e = rw e at asks_here

    pub asks_asked : x ≡ Asked → true ≡ asks_at w
    unfolding needs_symbol
    asks_asked e = rw e at asks_here
