-- What the calls of the replay answered, put together: the tests, and what a step writes one way through the code at a time. Rests on the rules' Lists.
use Prim.Native.Nat.{ℕ, ◌-◌, ◌≤◌, ◌<◌}
use mathlib.Core.Path.{◌≡◌}
use mathlib.Core.Bool.{Bool, true, false, not}
use mathlib.Core.List.{List}
use lib.Dec.{eqb, ltb}
use borrow.Author.Tests.{not-false, eqb-true, lt-ltb, le-leb, lt-leb, le-ltb}
use Rattle.std.specs.Prelude.{Some, None}
use Rattle.rules.specs.declared.Dart.{Dart}
use Rattle.rules.specs.declared.WalkNo.{WalkNo}
use Rattle.rules.specs.declared.Symbol.TheVariants.{New, Border, Index}
use Rattle.rules.specs.Lists.{first}
use Rattle.rules.specs.Map.{by_dart, link}
use Rattle.rules.proofs.Lists.{Sought, sought_here, sought_end}
use Rattle.walk.specs.Numbers.{number_in, dart_in}
use Rattle.walk.proofs.Laws.{Looked}
use Rattle.replay.specs.Replays.{known_in, deducing_rank, writes_by, writes_in}

-- the tests of the code, each over what its calls answered
pub known_own : (N n : ℕ) (t work : List ℕ) (j p d x : ℕ) → x ≡ number_in n work d → x < p → true ≡ known_in by_dart N n t work j p d
unfolding known_in
known_own N n t work j p d x e h = rw (← e, lt-ltb x p h)

pub known_other : (N n : ℕ) (t work : List ℕ) (j p d x y z : ℕ) → x ≡ number_in n work d → p ≤ x → y ≡ link by_dart N n t j d → z ≡ number_in n work y
    → ltb z p ≡ known_in by_dart N n t work j p d
unfolding known_in
known_other N n t work j p d x y z e h e' e'' = rw (← e, le-ltb x p h, ← e', ← e'')

-- where ai(d) is d itself nothing more is known there
pub unknown_there : (N n : ℕ) (t work : List ℕ) (j p x y d : ℕ) → x ≡ y → not (eqb x d) ≡ false → known_in by_dart N n t work j p d ≡ false
    → known_in by_dart N n t work j p y ≡ false
unknown_there N n t work j p x y d e f h = rw (← e, eqb-true x d (not-false _ f)) h

pub found_below : {f : ℕ → Bool} {k i : ℕ} → Sought f k i → i < k → f i ≡ true → true ≡ ltb (first f k) k
found_below {f} {k} {i} s h q = rw (← sought_here s h q, lt-ltb i k h)

pub found_none : {f : ℕ → Bool} {k i : ℕ} → Sought f k i → k ≤ i → false ≡ ltb (first f k) k
found_none {f} {k} {i} s h = rw (← sought_end s h, le-ltb i k h)

-- what a step writes, one way through the code at a time: the dart's own number is not below the position
module _ {N n : ℕ} {t work : List ℕ} {j p : ℕ} {d x : Dart} {e : WalkNo} (R : Looked N n t work j p d x e) (own : p ≤ number_in n work (dart_in n work p)) where
  own_number : p ≤ number_in n work d.0
  own_number = rw R.dart own

  pub writes_known : (c : ℕ) → e.0 < p → None ≡ writes_in by_dart N n t work c j p
  unfolding writes_in writes_by known_in
  writes_known c h = rw (← R.dart, ← R.partner, ← R.number, le-ltb (number_in n work d.0) p own_number, lt-ltb e.0 p h)

  pub writes_unknown : p ≤ e.0 → known_in by_dart N n t work j p d.0 ≡ false
  unfolding known_in
  writes_unknown h = rw (← R.partner, ← R.number, le-ltb (number_in n work d.0) p own_number, le-ltb e.0 p h)

  module _ (c : ℕ) (hk : p ≤ e.0) {l : Bool} (el : l ≡ ltb (deducing_rank by_dart N n t work j p d.0) (j - 1)) where
    pub writes_deduced : l ≡ true → None ≡ writes_in by_dart N n t work c j p
    unfolding writes_in writes_by
    writes_deduced h = rw (← R.dart, writes_unknown hk, ← el, h)

    module _ (hl : l ≡ false) where
      pub writes_border : eqb x.0 d.0 ≡ true → Some Border ≡ writes_in by_dart N n t work c j p
      unfolding writes_in writes_by
      writes_border h = rw (← R.dart, writes_unknown hk, ← el, hl, ← R.partner, h)

      module _ (hx : eqb x.0 d.0 ≡ false) where
        pub writes_new : c ≤ e.0 → Some New ≡ writes_in by_dart N n t work c j p
        unfolding writes_in writes_by
        writes_new h = rw (← R.dart, writes_unknown hk, ← el, hl, ← R.partner, hx, ← R.number, le-leb c e.0 h)

        pub writes_index : e.0 < c → Some (Index e) ≡ writes_in by_dart N n t work c j p
        unfolding writes_in writes_by
        writes_index h = rw (← R.dart, writes_unknown hk, ← el, hl, ← R.partner, hx, ← R.number, lt-leb c e.0 h)
