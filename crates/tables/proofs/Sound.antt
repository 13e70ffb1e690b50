-- The one pass over the darts: what each test of the code says of its definition, and that tables that pass it are a valid map's. Rests on the rules' Lists.
use Prim.Native.Nat.{ℕ, zero, suc, ◌+◌, ◌-◌, ◌≤◌, ◌<◌}
use mathlib.Core.Path.{◌≡◌, ap, sym, ◌∙◌}
use mathlib.Core.Logic.{◌≢◌, ◌⊎◌, inl, inr}
use mathlib.Core.Bool.{Bool, true, false, ◌&&◌, ◌||◌}
use mathlib.Core.List.{List}
use native.Mathlib.Omega.{arith}
use lib.Dec.{eqb, ltb}
use borrow.Author.Tests.{eq-eqb, ne_eqb, eqb-true, lt-ltb, le-ltb, ltb-true}
use Rattle.rules.specs.Lists.{all_below}
use Rattle.rules.specs.Map.{by_dart, link, Valid}
use Rattle.rules.proofs.Lists.{and_left, and_right, or_cases, all_below_lem, PassedSoFar}
use Rattle.tables.specs.Sound.{commutes_at, sound_link, sound_dart}

-- ranks i and j at dart d, y being ai(d)
module _ (N n : ℕ) (t : List ℕ) (j d i y : ℕ) (ey : y ≡ link by_dart N n t i d) where
  pub commutes_lower : y < d → true ≡ commutes_at N n t j d i
  unfolding commutes_at
  commutes_lower h = rw (← ey, lt-ltb y d h)

  pub commutes_asked : (x a b : ℕ) → x ≡ link by_dart N n t j d → a ≡ link by_dart N n t j y → b ≡ link by_dart N n t i x → d ≤ y
      → eqb a b ≡ commutes_at N n t j d i
  unfolding commutes_at
  commutes_asked x a b ex ea eb h = rw (← ey, ← ex, ← ea, ← eb, le-ltb y d h)

-- rank j at dart d, x being aj(d) and y what it leads back to
module _ (N n : ℕ) (t : List ℕ) (d j x : ℕ) (ex : x ≡ link by_dart N n t j d) where
  pub sound_none : n ≤ x → false ≡ sound_link N n t d j
  unfolding sound_link
  sound_none h = rw (← ex, le-ltb x n h)

  module _ (h : x < n) (y : ℕ) (ey : y ≡ link by_dart N n t j x) where
    pub sound_twisted : y ≢ d → false ≡ sound_link N n t d j
    unfolding sound_link
    sound_twisted e = rw (← ex, ← ey, lt-ltb x n h, ne_eqb y d e)

    pub sound_lower : y ≡ d → x < d → true ≡ sound_link N n t d j
    unfolding sound_link
    sound_lower e l = rw (← ex, ← ey, lt-ltb x n h, eq-eqb y d e, lt-ltb x d l)

    pub sound_asked : y ≡ d → d ≤ x → (r : Bool) → r ≡ all_below (j - 1) (commutes_at N n t j d) → r ≡ sound_link N n t d j
    unfolding sound_link
    sound_asked e l r er = rw (← ex, ← ey, lt-ltb x n h, eq-eqb y d e, le-ltb x d l) er

-- a link that passes
module _ (N n : ℕ) (t : List ℕ) (d j : ℕ) (e : sound_link N n t d j ≡ true) where
  abbrev x : ℕ
  x = link by_dart N n t j d

  pub passes_inside : link by_dart N n t j d < n
  unfolding sound_link
  passes_inside = ltb-true x n (and_left (ltb x n) (eqb (link by_dart N n t j x) d)
      (and_left (ltb x n && eqb (link by_dart N n t j x) d) (ltb x d || all_below (j - 1) (commutes_at N n t j d)) e))

  pub passes_back : link by_dart N n t j (link by_dart N n t j d) ≡ d
  unfolding sound_link
  passes_back = eqb-true (link by_dart N n t j x) d (and_right (ltb x n) (eqb (link by_dart N n t j x) d)
      (and_left (ltb x n && eqb (link by_dart N n t j x) d) (ltb x d || all_below (j - 1) (commutes_at N n t j d)) e))

  -- it leads to a lower dart, or so does ai, or the two commute
  pub passes_round : (i : ℕ) → i + 2 ≤ j → (link by_dart N n t j d < d) ⊎ ((link by_dart N n t i d < d)
      ⊎ (link by_dart N n t j (link by_dart N n t i d) ≡ link by_dart N n t i (link by_dart N n t j d)))
  unfolding sound_link commutes_at
  passes_round i h = go (or_cases (ltb x d) (all_below (j - 1) (commutes_at N n t j d))
      (and_right (ltb x n && eqb (link by_dart N n t j x) d) (ltb x d || all_below (j - 1) (commutes_at N n t j d)) e))
    where
      y : ℕ
      y = link by_dart N n t i d

      pair : (ltb y d ≡ true) ⊎ (eqb (link by_dart N n t j y) (link by_dart N n t i x) ≡ true)
          → (x < d) ⊎ ((y < d) ⊎ (link by_dart N n t j y ≡ link by_dart N n t i x))
      pair (inl q) = inr (inl (ltb-true y d q))
      pair (inr q) = inr (inr (eqb-true (link by_dart N n t j y) (link by_dart N n t i x) q))

      go : (ltb x d ≡ true) ⊎ (all_below (j - 1) (commutes_at N n t j d) ≡ true) → (x < d) ⊎ ((y < d) ⊎ (link by_dart N n t j y ≡ link by_dart N n t i x))
      go (inl q) = inl (ltb-true x d q)
      go (inr q) = pair (or_cases (ltb y d) (eqb (link by_dart N n t j y) (link by_dart N n t i x))
          (all_below_lem (j - 1) (commutes_at N n t j d) q i (omega arith)))

-- the links of a dart below the rank that the loop has come to are darts
pub inside_so_far : (N n : ℕ) (t : List ℕ) (d j : ℕ) → PassedSoFar (sound_link N n t d) (suc N) j → (i : ℕ) → i < j → link by_dart N n t i d < n
inside_so_far N n t d j p i h = passes_inside N n t d i (p.all i h)

-- tables whose every dart passes are a valid map's
module _ (N n : ℕ) (t : List ℕ) (e : all_below n (sound_dart N n t) ≡ true) where
  sound : (j d : ℕ) → j ≤ N → d < n → sound_link N n t d j ≡ true
  unfolding sound_dart
  sound j d hj hd = all_below_lem (suc N) (sound_link N n t d) (all_below_lem n (sound_dart N n t) e d hd) j (omega arith)

  inside : (i d : ℕ) → i ≤ N → d < n → link by_dart N n t i d < n
  inside i d hi hd = passes_inside N n t d i (sound i d hi hd)

  back : (i d : ℕ) → i ≤ N → d < n → link by_dart N n t i (link by_dart N n t i d) ≡ d
  back i d hi hd = passes_back N n t d i (sound i d hi hd)

  -- two ranks commute at every dart: it was asked there, or at a lower dart that one of the two leads to and back from
  module _ (i j : ℕ) (h : i + 2 ≤ j) (hj : j ≤ N) where
    hi : i ≤ N
    hi = omega arith

    abbrev ai : ℕ → ℕ
    ai d = link by_dart N n t i d

    abbrev aj : ℕ → ℕ
    aj d = link by_dart N n t j d

    commute : (k d : ℕ) → d < k → d < n → aj (ai d) ≡ ai (aj d)
    commute zero d l hd = absurd (omega arith)
    commute (suc k) d l hd = go (λ c lc hc. commute k c lc hc) (passes_round N n t d j (sound j d hj hd) i h)
      where
        go : ((c : ℕ) → c < k → c < n → aj (ai c) ≡ ai (aj c)) → (aj d < d) ⊎ ((ai d < d) ⊎ (aj (ai d) ≡ ai (aj d))) → aj (ai d) ≡ ai (aj d)
        go rec (inr (inr q)) = q
        go rec (inl q) =
            let r = rec (aj d) (omega arith) (inside j d hj hd) in
            let s : aj (ai (aj d)) ≡ ai d = r ∙ ap ai (back j d hj hd) in
            let m = back j (ai (aj d)) hj (inside i (aj d) hi (inside j d hj hd)) in
            ap aj (sym s) ∙ m
        go rec (inr (inl q)) =
            let r = rec (ai d) (omega arith) (inside i d hi hd) in
            let s : aj d ≡ ai (aj (ai d)) = ap aj (sym (back i d hi hd)) ∙ r in
            let m = back i (aj (ai d)) hi (inside j (ai d) hj (inside i d hi hd)) in
            sym m ∙ ap ai (sym s)

    round : (d : ℕ) → d < n → aj (ai (aj (ai d))) ≡ d
    round d hd =
        let c = commute (suc d) d (omega arith) hd in
        let b : ai (aj (ai d)) ≡ aj d = ap ai c ∙ back i (aj d) hi (inside j d hj hd) in
        ap aj b ∙ back j d hj hd

  pub sound_valid : Valid by_dart N n t
  sound_valid = record { inside = inside; inverse = back; manifold = λ i j d h hj hd. round i j h hj d hd }
