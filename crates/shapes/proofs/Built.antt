-- The map that a face file makes is valid: sides with the same two vertices, the twin of a corner, the links of its two darts, and the tables with the map in
-- front. Rests on Lists, Places, Layouts and Corners.
use Prim.Native.Nat.{ℕ, zero, suc, ◌+◌, ◌*◌, ◌/◌, ◌%◌, ◌≤◌, ◌<◌}
use mathlib.Core.Path.{◌≡◌, refl, ap, sym, ◌∙◌}
use mathlib.Core.Logic.{◌≢◌, ◌⊎◌, inl, inr}
use mathlib.Core.Bool.{Bool, true, false, not, ◌&&◌, cond}
use mathlib.Core.List.{List, ◌++◌}
use native.Mathlib.Omega.{arith}
use native.Mathlib.Decide.{ℕ_discrete, dec_lt}
use lib.ListN.{length, drop, length-append, length-drop}
use lib.Dec.{eqb}
use borrow.Author.Tests.{lt-ltb, le-ltb, le-leb, eq-eqb, ne_eqb, eqb-true, eqb-false, leb-false, not-true}
use Rattle.rules.specs.Lists.{count_below}
use Rattle.rules.specs.Map.{Layout, size, link, Valid}
use Rattle.shapes.specs.Faces.{Corner, all_corners, corner_at, alike, some, poor, third, darts_of, vertex_of, corner_before, corner_after, twin}
use Rattle.shapes.specs.Faces.{link_from, map_on}
use Rattle.rules.proofs.Lists.{and_left, and_right, both, or_cases, or_left, or_right, not_both, first_passes, first_before, length_list_of}
use Rattle.rules.proofs.Places.{link_past}
use Rattle.rules.proofs.Layouts.{laid, link_laid}
use Rattle.shapes.proofs.Counts.{count_two}
use Rattle.shapes.proofs.Corners.{Framed, framed, own_far, after_below, before_below, before_after, after_before}

-- two sides with the same two vertices: both run the same way, or one runs the other way
pub alike_cases : (a b : Corner) → alike a b ≡ true → ((a.own ≡ b.own) × (a.far ≡ b.far)) ⊎ ((a.own ≡ b.far) × (a.far ≡ b.own))
unfolding alike
alike_cases a b e = go (or_cases (eqb a.own b.own && eqb a.far b.far) (eqb a.own b.far && eqb a.far b.own) e)
  where
    two : (x y z w : ℕ) → (eqb x y && eqb z w) ≡ true → (x ≡ y) × (z ≡ w)
    two x y z w q = (eqb-true x y (and_left (eqb x y) (eqb z w) q), eqb-true z w (and_right (eqb x y) (eqb z w) q))

    go : ((eqb a.own b.own && eqb a.far b.far) ≡ true) ⊎ ((eqb a.own b.far && eqb a.far b.own) ≡ true)
        → ((a.own ≡ b.own) × (a.far ≡ b.far)) ⊎ ((a.own ≡ b.far) × (a.far ≡ b.own))
    go (inl q) = inl (two a.own b.own a.far b.far q)
    go (inr q) = inr (two a.own b.far a.far b.own q)

pub alike_straight : (a b : Corner) → a.own ≡ b.own → a.far ≡ b.far → alike a b ≡ true
unfolding alike
alike_straight a b p q =
    or_left (eqb a.own b.own && eqb a.far b.far) (eqb a.own b.far && eqb a.far b.own)
    (both (eqb a.own b.own) (eqb a.far b.far) (eq-eqb a.own b.own p) (eq-eqb a.far b.far q))

pub alike_crossed : (a b : Corner) → a.own ≡ b.far → a.far ≡ b.own → alike a b ≡ true
unfolding alike
alike_crossed a b p q =
    or_right (eqb a.own b.own && eqb a.far b.far) (eqb a.own b.far && eqb a.far b.own)
    (both (eqb a.own b.far) (eqb a.far b.own) (eq-eqb a.own b.far p) (eq-eqb a.far b.own q))

-- symmetric and transitive
pub alike_sym : (a b : Corner) → alike a b ≡ true → alike b a ≡ true
alike_sym a b e = go (alike_cases a b e)
  where
    go : ((a.own ≡ b.own) × (a.far ≡ b.far)) ⊎ ((a.own ≡ b.far) × (a.far ≡ b.own)) → alike b a ≡ true
    go (inl (p, q)) = alike_straight b a (sym p) (sym q)
    go (inr (p, q)) = alike_crossed b a (sym q) (sym p)

pub alike_trans : (a b c : Corner) → alike a b ≡ true → alike b c ≡ true → alike a c ≡ true
alike_trans a b c e f = go (alike_cases a b e) (alike_cases b c f)
  where
    go : ((a.own ≡ b.own) × (a.far ≡ b.far)) ⊎ ((a.own ≡ b.far) × (a.far ≡ b.own))
        → ((b.own ≡ c.own) × (b.far ≡ c.far)) ⊎ ((b.own ≡ c.far) × (b.far ≡ c.own)) → alike a c ≡ true
    go (inl (p, q)) (inl (r, s)) = alike_straight a c (p ∙ r) (q ∙ s)
    go (inl (p, q)) (inr (r, s)) = alike_crossed a c (p ∙ r) (q ∙ s)
    go (inr (p, q)) (inl (r, s)) = alike_crossed a c (p ∙ s) (q ∙ r)
    go (inr (p, q)) (inr (r, s)) = alike_straight a c (p ∙ s) (q ∙ r)

-- the twin, where no corner is a third use of its side
abbrev pub Twice : List Corner → Type 0
Twice cs = (c : ℕ) → c < length cs → third cs c ≡ false

-- twins are two corners with the same two vertices; where there is none no other corner has them
module _ (cs : List Corner) (c : ℕ) where
  pub twin_other : twin cs c < length cs → twin cs c ≢ c
  unfolding twin
  twin_other h =
      let e = twin cs c in
      eqb-false e c (not-true (eqb e c) (and_left (not (eqb e c)) (alike (corner_at cs c) (corner_at cs e)) (first_passes _ (length cs) h)))

  pub twin_alike : twin cs c < length cs → alike (corner_at cs c) (corner_at cs (twin cs c)) ≡ true
  unfolding twin
  twin_alike h =
      let e = twin cs c in
      and_right (not (eqb e c)) (alike (corner_at cs c) (corner_at cs e)) (first_passes _ (length cs) h)

  -- no corner before the twin is alike
  pub twin_before : (e : ℕ) → e < twin cs c → e ≢ c → alike (corner_at cs c) (corner_at cs e) ≡ false
  unfolding twin
  twin_before e h n = go (alike (corner_at cs c) (corner_at cs e)) refl
    where
      go : (b : Bool) → alike (corner_at cs c) (corner_at cs e) ≡ b → b ≡ false
      go false q = refl
      go true q = absurd (not_both (not (eqb e c) && alike (corner_at cs c) (corner_at cs e)) (rw (ne_eqb e c n, q)) (first_before _ (length cs) e h))

module _ (cs : List Corner) (U : Twice cs) where
  -- two corners before c, in order, are not both alike to it
  not_third : (a b c : ℕ) → a < b → b < c → c < length cs → alike (corner_at cs c) (corner_at cs a) ≡ true → alike (corner_at cs c) (corner_at cs b) ≡ true → ⊥
  unfolding third
  not_third a b c h l m p q =
      omega (
        arith,
        leb-false 2 (count_below c (λ e. alike (corner_at cs c) (corner_at cs e))) (U c m),
        count_two c (λ e. alike (corner_at cs c) (corner_at cs e)) a b h l p q,
      )

  -- in any order
  third_before : (a b c : ℕ) → a < c → b < c → a ≢ b → c < length cs → alike (corner_at cs c) (corner_at cs a) ≡ true
      → alike (corner_at cs c) (corner_at cs b) ≡ true → ⊥
  third_before a b c h l n m p q = go (dec_lt a b)
    where
      go : Dec (a < b) → ⊥
      go (yes x) = not_third a b c x l m p q
      go (no x) = not_third b a c (omega arith) h m q p

  -- no three corners are alike
  pub no_three : (a b c : ℕ) → a < length cs → b < length cs → c < length cs → a ≢ b → a ≢ c → b ≢ c → alike (corner_at cs a) (corner_at cs b) ≡ true
      → alike (corner_at cs a) (corner_at cs c) ≡ true → ⊥
  no_three a b c ha hb hc ab ac bc p q = go (dec_lt a b) (dec_lt a c) (dec_lt b c)
    where
      A : Corner
      A = corner_at cs a

      B : Corner
      B = corner_at cs b

      C : Corner
      C = corner_at cs c

      last_b : a < b → c < b → ⊥
      last_b x y = third_before a c b x y ac hb (alike_sym A B p) (alike_trans B A C (alike_sym A B p) q)

      last_c : a < c → b < c → ⊥
      last_c x y = third_before a b c x y ab hc (alike_sym A C q) (alike_trans C A B (alike_sym A C q) p)

      go : Dec (a < b) → Dec (a < c) → Dec (b < c) → ⊥
      go (yes x) y (no z) = last_b x (omega arith)
      go (yes x) y (yes z) = last_c (omega arith) z
      go (no x) (yes y) z = last_c y (omega arith)
      go (no x) (no y) z = third_before b c a (omega arith) (omega arith) bc ha p q

  -- a corner that is alike is the twin
  pub twin_only : (c e : ℕ) → c < length cs → e < length cs → e ≢ c → alike (corner_at cs c) (corner_at cs e) ≡ true → twin cs c ≡ e
  twin_only c e hc he n p = go (dec_lt e (twin cs c)) (ℕ_discrete (twin cs c) e)
    where
      go : Dec (e < twin cs c) → Dec (twin cs c ≡ e) → twin cs c ≡ e
      go l (yes q) = q
      go (yes l) (no q) = absurd (not_both (alike (corner_at cs c) (corner_at cs e)) p (twin_before cs c e l n))
      go (no l) (no q) =
          let h : twin cs c < length cs = omega arith in
          let m = twin_other cs c h in
          absurd (no_three c e (twin cs c) hc he h (λ z. n (sym z)) (λ z. m (sym z)) (λ z. q (sym z)) p (twin_alike cs c h))

  -- the twin's twin
  pub twin_twin : (c : ℕ) → c < length cs → twin cs c < length cs → twin cs (twin cs c) ≡ c
  twin_twin c hc h =
      let m = twin_other cs c h in
      twin_only (twin cs c) c h hc (λ z. m (sym z)) (alike_sym (corner_at cs c) (corner_at cs (twin cs c)) (twin_alike cs c h))

-- every dart is that of a corner at its own vertex or at the far one
pub by_ends : (P : ℕ → Type 0) (n : ℕ) → ((c : ℕ) → c < n → P (2 * c)) → ((c : ℕ) → c < n → P (2 * c + 1)) → (d : ℕ) → d < 2 * n → P d
by_ends P n f g d h = go (ℕ_discrete (d % 2) 0)
  where
    go : Dec (d % 2 ≡ 0) → P d
    go (yes e) = let q : d ≡ 2 * (d / 2) = omega arith in rw q (f (d / 2) (omega arith))
    go (no e) = let q : d ≡ 2 * (d / 2) + 1 = omega arith in rw q (g (d / 2) (omega arith))

-- the corner of a dart, and its end
half_own : (c : ℕ) → 2 * c / 2 ≡ c
half_own c = omega arith

half_far : (c : ℕ) → (2 * c + 1) / 2 ≡ c
half_far c = omega arith

end_own : (c : ℕ) → eqb (2 * c % 2) 0 ≡ true
end_own c = eq-eqb (2 * c % 2) 0 (omega arith)

end_far : (c : ℕ) → eqb ((2 * c + 1) % 2) 0 ≡ false
end_far c = ne_eqb ((2 * c + 1) % 2) 0 (λ e. omega arith)

-- the vertices of a corner's two darts
pub vertex_own : (cs : List Corner) (c : ℕ) → vertex_of cs (2 * c) ≡ (corner_at cs c).own
unfolding vertex_of
vertex_own cs c = rw (end_own c, half_own c)

pub vertex_far : (cs : List Corner) (c : ℕ) → vertex_of cs (2 * c + 1) ≡ (corner_at cs c).far
unfolding vertex_of
vertex_far cs c = rw (end_far c, half_far c)

-- their links
module _ (cs : List Corner) (c : ℕ) where
  pub zero_own : link_from cs 0 (2 * c) ≡ 2 * c + 1
  unfolding link_from
  zero_own = rw (end_own c)

  pub zero_far : link_from cs 0 (2 * c + 1) ≡ 2 * c
  unfolding link_from
  zero_far = rw (end_far c) (omega arith)

  pub one_own : link_from cs 1 (2 * c) ≡ 2 * corner_before cs c + 1
  unfolding link_from
  one_own = rw (end_own c, half_own c)

  pub one_far : link_from cs 1 (2 * c + 1) ≡ 2 * corner_after cs c
  unfolding link_from
  one_far = rw (end_far c, half_far c)

  -- an unmatched side is free
  pub free_own : length cs ≤ twin cs c → link_from cs 2 (2 * c) ≡ 2 * c
  unfolding link_from
  free_own h = rw (half_own c, le-ltb (twin cs c) (length cs) h)

  pub free_far : length cs ≤ twin cs c → link_from cs 2 (2 * c + 1) ≡ 2 * c + 1
  unfolding link_from
  free_far h = rw (half_far c, le-ltb (twin cs c) (length cs) h)

  -- a matched one leads to an end of its twin
  pub twin_own : (e : ℕ) → twin cs c ≡ e → e < length cs → link_from cs 2 (2 * c) ≡ cond (eqb (corner_at cs e).own (corner_at cs c).own) (2 * e) (2 * e + 1)
  unfolding link_from
  twin_own e q h = rw (vertex_own cs c, half_own c, q, lt-ltb e (length cs) h, vertex_own cs e)

  pub twin_far : (e : ℕ) → twin cs c ≡ e → e < length cs
      → link_from cs 2 (2 * c + 1) ≡ cond (eqb (corner_at cs e).own (corner_at cs c).far) (2 * e) (2 * e + 1)
  unfolding link_from
  twin_far e q h = rw (vertex_far cs c, half_far c, q, lt-ltb e (length cs) h, vertex_own cs e)

-- the four darts of two corners that are twins: both sides run the same way, or one runs the other way
pub data Joined (cs : List Corner) (c e : ℕ) : Type 0 where
  straight : (corner_at cs c).own ≡ (corner_at cs e).own → (corner_at cs c).far ≡ (corner_at cs e).far → link_from cs 2 (2 * c) ≡ 2 * e
      → link_from cs 2 (2 * c + 1) ≡ 2 * e + 1 → link_from cs 2 (2 * e) ≡ 2 * c → link_from cs 2 (2 * e + 1) ≡ 2 * c + 1 → Joined cs c e
  crossed : (corner_at cs c).own ≡ (corner_at cs e).far → (corner_at cs c).far ≡ (corner_at cs e).own → link_from cs 2 (2 * c) ≡ 2 * e + 1
      → link_from cs 2 (2 * c + 1) ≡ 2 * e → link_from cs 2 (2 * e) ≡ 2 * c + 1 → link_from cs 2 (2 * e + 1) ≡ 2 * c → Joined cs c e

-- each corner has two vertices
abbrev pub Apart : List Corner → Type 0
Apart cs = (c : ℕ) → c < length cs → (corner_at cs c).own ≢ (corner_at cs c).far

module _ (cs : List Corner) (A : Apart cs) (U : Twice cs) where
  pub joined : (c : ℕ) → c < length cs → twin cs c < length cs → Joined cs c (twin cs c)
  joined c hc he = go (alike_cases (corner_at cs c) (corner_at cs e) (twin_alike cs c he))
    where
      e : ℕ
      e = twin cs c

      back : twin cs e ≡ c
      back = twin_twin cs U c hc he

      k : Corner
      k = corner_at cs c

      m : Corner
      m = corner_at cs e

      go : ((k.own ≡ m.own) × (k.far ≡ m.far)) ⊎ ((k.own ≡ m.far) × (k.far ≡ m.own)) → Joined cs c (twin cs c)
      go (inl (p, q)) = straight p q
          (twin_own cs c e refl he ∙ rw (eq-eqb m.own k.own (sym p)))
          (twin_far cs c e refl he ∙ rw (ne_eqb m.own k.far (λ z. A c hc (p ∙ z))))
          (twin_own cs e c back hc ∙ rw (eq-eqb k.own m.own p))
          (twin_far cs e c back hc ∙ rw (ne_eqb k.own m.far (λ z. A c hc (z ∙ sym q))))
      go (inr (p, q)) = crossed p q
          (twin_own cs c e refl he ∙ rw (ne_eqb m.own k.own (λ z. A c hc (sym (q ∙ z)))))
          (twin_far cs c e refl he ∙ rw (eq-eqb m.own k.far (sym q)))
          (twin_own cs e c back hc ∙ rw (ne_eqb k.own m.own (λ z. A c hc (z ∙ sym q))))
          (twin_far cs e c back hc ∙ rw (eq-eqb k.own m.far p))

  -- a corner is free, or joined to another
  pub side : (c : ℕ) → c < length cs → (length cs ≤ twin cs c) ⊎ ((twin cs c < length cs) × Joined cs c (twin cs c))
  side c hc = go (dec_lt (twin cs c) (length cs))
    where
      go : Dec (twin cs c < length cs) → (length cs ≤ twin cs c) ⊎ ((twin cs c < length cs) × Joined cs c (twin cs c))
      go (yes l) = inr (l, joined c hc l)
      go (no l) = inl (omega arith)

  -- a2 leads to a dart
  two_below : (d : ℕ) → d < 2 * length cs → link_from cs 2 d < 2 * length cs
  two_below = by_ends (λ d. link_from cs 2 d < 2 * length cs) (length cs) (λ c h. own c h (side c h)) (λ c h. far c h (side c h))
    where
      own : (c : ℕ) → c < length cs → (length cs ≤ twin cs c) ⊎ ((twin cs c < length cs) × Joined cs c (twin cs c)) → link_from cs 2 (2 * c) < 2 * length cs
      own c h (inl l) = omega (arith, free_own cs c l)
      own c h (inr (l, straight p q w x y z)) = omega arith
      own c h (inr (l, crossed p q w x y z)) = omega arith

      far : (c : ℕ) → c < length cs → (length cs ≤ twin cs c) ⊎ ((twin cs c < length cs) × Joined cs c (twin cs c))
          → link_from cs 2 (2 * c + 1) < 2 * length cs
      far c h (inl l) = omega (arith, free_far cs c l)
      far c h (inr (l, straight p q w x y z)) = omega arith
      far c h (inr (l, crossed p q w x y z)) = omega arith

  -- and back
  two_two : (d : ℕ) → d < 2 * length cs → link_from cs 2 (link_from cs 2 d) ≡ d
  two_two = by_ends (λ d. link_from cs 2 (link_from cs 2 d) ≡ d) (length cs) (λ c h. own c (side c h)) (λ c h. far c (side c h))
    where
      own : (c : ℕ) → (length cs ≤ twin cs c) ⊎ ((twin cs c < length cs) × Joined cs c (twin cs c)) → link_from cs 2 (link_from cs 2 (2 * c)) ≡ 2 * c
      own c (inl l) = ap (link_from cs 2) (free_own cs c l) ∙ free_own cs c l
      own c (inr (l, straight p q w x y z)) = ap (link_from cs 2) w ∙ y
      own c (inr (l, crossed p q w x y z)) = ap (link_from cs 2) w ∙ z

      far : (c : ℕ) → (length cs ≤ twin cs c) ⊎ ((twin cs c < length cs) × Joined cs c (twin cs c)) → link_from cs 2 (link_from cs 2 (2 * c + 1)) ≡ 2 * c + 1
      far c (inl l) = ap (link_from cs 2) (free_far cs c l) ∙ free_far cs c l
      far c (inr (l, straight p q w x y z)) = ap (link_from cs 2) x ∙ z
      far c (inr (l, crossed p q w x y z)) = ap (link_from cs 2) x ∙ y

  -- a2 keeps the vertex
  pub two_vertex : (d : ℕ) → d < 2 * length cs → vertex_of cs (link_from cs 2 d) ≡ vertex_of cs d
  two_vertex = by_ends (λ d. vertex_of cs (link_from cs 2 d) ≡ vertex_of cs d) (length cs) (λ c h. own c (side c h)) (λ c h. far c (side c h))
    where
      own : (c : ℕ) → (length cs ≤ twin cs c) ⊎ ((twin cs c < length cs) × Joined cs c (twin cs c))
          → vertex_of cs (link_from cs 2 (2 * c)) ≡ vertex_of cs (2 * c)
      own c (inl l) = ap (vertex_of cs) (free_own cs c l)
      own c (inr (l, straight p q w x y z)) = ap (vertex_of cs) w ∙ (vertex_own cs (twin cs c) ∙ (sym p ∙ sym (vertex_own cs c)))
      own c (inr (l, crossed p q w x y z)) = ap (vertex_of cs) w ∙ (vertex_far cs (twin cs c) ∙ (sym p ∙ sym (vertex_own cs c)))

      far : (c : ℕ) → (length cs ≤ twin cs c) ⊎ ((twin cs c < length cs) × Joined cs c (twin cs c))
          → vertex_of cs (link_from cs 2 (2 * c + 1)) ≡ vertex_of cs (2 * c + 1)
      far c (inl l) = ap (vertex_of cs) (free_far cs c l)
      far c (inr (l, straight p q w x y z)) = ap (vertex_of cs) x ∙ (vertex_far cs (twin cs c) ∙ (sym q ∙ sym (vertex_far cs c)))
      far c (inr (l, crossed p q w x y z)) = ap (vertex_of cs) x ∙ (vertex_own cs (twin cs c) ∙ (sym q ∙ sym (vertex_far cs c)))

  -- the manifold condition: a0, a2, a0, a2 lead back
  pub zero_two : (d : ℕ) → d < 2 * length cs → link_from cs 2 (link_from cs 0 (link_from cs 2 (link_from cs 0 d))) ≡ d
  zero_two = by_ends (λ d. link_from cs 2 (link_from cs 0 (link_from cs 2 (link_from cs 0 d))) ≡ d) (length cs) (λ c h. own c (side c h))
      (λ c h. far c (side c h))
    where
      around : (a b c d e : ℕ) → link_from cs 0 a ≡ b → link_from cs 2 b ≡ c → link_from cs 0 c ≡ d → link_from cs 2 d ≡ e
          → link_from cs 2 (link_from cs 0 (link_from cs 2 (link_from cs 0 a))) ≡ e
      around a b c d e p q r s = rw (p, q, r) s

      own : (c : ℕ) → (length cs ≤ twin cs c) ⊎ ((twin cs c < length cs) × Joined cs c (twin cs c))
          → link_from cs 2 (link_from cs 0 (link_from cs 2 (link_from cs 0 (2 * c)))) ≡ 2 * c
      own c (inl l) = around (2 * c) (2 * c + 1) (2 * c + 1) (2 * c) (2 * c) (zero_own cs c) (free_far cs c l) (zero_far cs c) (free_own cs c l)
      own c (inr (l, straight p q w x y z)) =
          let e = twin cs c in
          around (2 * c) (2 * c + 1) (2 * e + 1) (2 * e) (2 * c) (zero_own cs c) x (zero_far cs e) y
      own c (inr (l, crossed p q w x y z)) =
          let e = twin cs c in
          around (2 * c) (2 * c + 1) (2 * e) (2 * e + 1) (2 * c) (zero_own cs c) x (zero_own cs e) z

      far : (c : ℕ) → (length cs ≤ twin cs c) ⊎ ((twin cs c < length cs) × Joined cs c (twin cs c))
          → link_from cs 2 (link_from cs 0 (link_from cs 2 (link_from cs 0 (2 * c + 1)))) ≡ 2 * c + 1
      far c (inl l) = around (2 * c + 1) (2 * c) (2 * c) (2 * c + 1) (2 * c + 1) (zero_far cs c) (free_own cs c l) (zero_own cs c) (free_far cs c l)
      far c (inr (l, straight p q w x y z)) =
          let e = twin cs c in
          around (2 * c + 1) (2 * c) (2 * e) (2 * e + 1) (2 * c + 1) (zero_far cs c) w (zero_own cs e) z
      far c (inr (l, crossed p q w x y z)) =
          let e = twin cs c in
          around (2 * c + 1) (2 * c) (2 * e + 1) (2 * e) (2 * c + 1) (zero_far cs c) w (zero_far cs e) y

-- a0 stays within its corner
zero_below : (cs : List Corner) (d : ℕ) → d < 2 * length cs → link_from cs 0 d < 2 * length cs
zero_below cs =
    by_ends (λ d. link_from cs 0 d < 2 * length cs) (length cs) (λ c h. omega (arith, zero_own cs c)) (λ c h. omega (arith, zero_far cs c))

zero_zero : (cs : List Corner) (d : ℕ) → d < 2 * length cs → link_from cs 0 (link_from cs 0 d) ≡ d
zero_zero cs =
    by_ends (λ d. link_from cs 0 (link_from cs 0 d) ≡ d) (length cs) (λ c h. ap (link_from cs 0) (zero_own cs c) ∙ zero_far cs c)
    (λ c h. ap (link_from cs 0) (zero_far cs c) ∙ zero_own cs c)

-- a1 stays within its face
module _ (cs : List Corner) (F : Framed cs) where
  one_below : (d : ℕ) → d < 2 * length cs → link_from cs 1 d < 2 * length cs
  one_below =
      by_ends (λ d. link_from cs 1 d < 2 * length cs) (length cs) (λ c h. omega (arith, one_own cs c, before_below cs F c h))
      (λ c h. omega (arith, one_far cs c, after_below cs F c h))

  one_one : (d : ℕ) → d < 2 * length cs → link_from cs 1 (link_from cs 1 d) ≡ d
  one_one =
      by_ends (λ d. link_from cs 1 (link_from cs 1 d) ≡ d) (length cs)
      (λ c h. ap (link_from cs 1) (one_own cs c) ∙ (one_far cs (corner_before cs c) ∙ ap (λ (x : ℕ). 2 * x) (after_before cs F c h)))
      (λ c h. ap (link_from cs 1) (one_far cs c) ∙ (one_own cs (corner_after cs c) ∙ ap (λ (x : ℕ). 2 * x + 1) (before_after cs F c h)))

-- each link leads to a dart, and back
module _ (cs : List Corner) (F : Framed cs) (A : Apart cs) (U : Twice cs) where
  pub from_below : (i d : ℕ) → d < 2 * length cs → link_from cs i d < 2 * length cs
  unfolding link_from
  from_below zero d h = zero_below cs d h
  from_below (suc zero) d h = one_below cs F d h
  from_below (suc (suc i)) d h = two_below cs A U d h

  pub from_from : (i d : ℕ) → d < 2 * length cs → link_from cs i (link_from cs i d) ≡ d
  unfolding link_from
  from_from zero d h = zero_zero cs d h
  from_from (suc zero) d h = one_one cs F d h
  from_from (suc (suc i)) d h = two_two cs A U d h

-- the tables with the map in front
module _ (Y : Layout) (cs : List Corner) (t : List ℕ) (room : size 2 (darts_of cs) ≤ length t) where
  pub built_is : map_on Y cs t ≡ laid Y 2 (darts_of cs) (link_from cs) ++ drop (size 2 (darts_of cs)) t
  unfolding map_on laid
  built_is = rw (le-leb (size 2 (darts_of cs)) (length t) room)

  pub laid_long : length (laid Y 2 (darts_of cs) (link_from cs)) ≡ size 2 (darts_of cs)
  unfolding laid
  laid_long = length_list_of (size 2 (darts_of cs)) _

  -- as laid-long as they were
  pub built_length : length (map_on Y cs t) ≡ length t
  built_length =
      ap length built_is
      ∙ (length-append (laid Y 2 (darts_of cs) (link_from cs)) (drop (size 2 (darts_of cs)) t)
      ∙ omega (arith, laid_long, length-drop (size 2 (darts_of cs)) t))

  -- their links
  pub built_link : (i d : ℕ) → i ≤ 2 → d < darts_of cs → link Y 2 (darts_of cs) (map_on Y cs t) i d ≡ link_from cs i d
  built_link i d hi hd =
      ap (λ (u : List ℕ). link Y 2 (darts_of cs) u i d) built_is
      ∙ (link_past Y 2 (darts_of cs) (laid Y 2 (darts_of cs) (link_from cs)) (drop (size 2 (darts_of cs)) t) i d hi (omega (arith, laid_long))
      ∙ link_laid Y 2 (darts_of cs) (link_from cs) i d hi hd)

-- the map is valid, of any corners with frames
pub corners_valid : (Y : Layout) (cs : List Corner) (t : List ℕ) → Framed cs → Apart cs → Twice cs → size 2 (darts_of cs) ≤ length t
    → Valid Y 2 (darts_of cs) (map_on Y cs t)
unfolding darts_of
corners_valid Y cs t F A U room = record {
  inside = λ i d hi hd. rw (is i d hi hd) (from_below cs F A U i d hd);
  inverse = λ i d hi hd. twice i i d hi hi hd ∙ from_from cs F A U i d hd;
  manifold = λ i j d hij hj hd.
      let zi : i ≡ 0 = omega arith in
      let zj : j ≡ 2 = omega arith in
      let e = link_from cs 2 (link_from cs 0 d) in
      let he : e < n = from_below cs F A U 2 (link_from cs 0 d) (from_below cs F A U 0 d hd) in
      rw (zi, zj) (ap (λ (x : ℕ). link Y 2 n u 2 (link Y 2 n u 0 x)) (twice 0 2 d (omega arith) (omega arith) hd)
      ∙ (twice 0 2 e (omega arith) (omega arith) he ∙ zero_two cs A U d hd));
}
  where
    n : ℕ
    n = 2 * length cs

    u : List ℕ
    u = map_on Y cs t

    is : (i d : ℕ) → i ≤ 2 → d < n → link Y 2 n u i d ≡ link_from cs i d
    is i d hi hd = built_link Y cs t room i d hi hd

    twice : (i j d : ℕ) → i ≤ 2 → j ≤ 2 → d < n → link Y 2 n u j (link Y 2 n u i d) ≡ link_from cs j (link_from cs i d)
    twice i j d hi hj hd = ap (link Y 2 n u j) (is i d hi hd) ∙ is j (link_from cs i d) hj (from_below cs F A U i d hd)

-- the map of a file's faces, where none is poor and no side is used a third time
pub built_valid : (Y : Layout) (fs : List (List ℕ)) (t : List ℕ) → some poor fs ≡ false
    → ((c : ℕ) → c < length (all_corners 0 fs) → third (all_corners 0 fs) c ≡ false) → size 2 (darts_of (all_corners 0 fs)) ≤ length t
    → Valid Y 2 (darts_of (all_corners 0 fs)) (map_on Y (all_corners 0 fs) t)
built_valid Y fs t e U room = corners_valid Y (all_corners 0 fs) t (framed fs) (own_far fs e) U room
