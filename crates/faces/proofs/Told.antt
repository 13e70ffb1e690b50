-- What the steps along a text tell of the corners of its faces: their vertices, keys, third uses and last corners, up to the first flaw.
use Prim.Native.Nat.{ℕ, zero, suc, ◌+◌, ◌*◌, ◌-◌, ◌/◌, ◌%◌, ◌≤◌, ◌<◌}
use mathlib.Core.Path.{◌≡◌, refl, ap, sym, ◌∙◌}
use mathlib.Core.Logic.{◌⊎◌, inl, inr}
use mathlib.Core.List.{List, [], ◌∷◌, ◌++◌, append_assoc, map}
use mathlib.Core.Bool.{Bool, true, false}
use native.Mathlib.Omega.{arith}
use native.Mathlib.Decide.{dec_lt}
use lib.ListN.{length, get_or, get_or-append}
use lib.Arith.{digits_div, digits_mod}
use lib.Dec.{eqb, leb}
use borrow.Author.Tests.{eq-eqb, lt-ltb, le-ltb, eqb-true, leb-false}
use Rattle.rules.specs.Lists.{count_below}
use Rattle.shapes.specs.Text.{good, several, face}
use Rattle.shapes.specs.Faces.{Corner, corners, all_corners, corner_at, alike, some, large, poor, third}
use Rattle.shapes.proofs.Counts.{count_same}
use Rattle.shapes.proofs.Corners.{length_all, length_from, start_of, start_next, Of, of_known, of_some, own_at, far_at, far_last, some_none, face_three}
use Rattle.shapes.proofs.Built.{alike_cases, alike_straight, alike_crossed}
use Rattle.corners.specs.Steps.{begun, step_at, last_at}
use Rattle.corners.proofs.Runs.{Use, bare, use_of, Full, none, more, run_at, faces_run}
use Rattle.sides.specs.Sides.{key_of, key_at, third_use}
use Rattle.faces.proofs.Flawed.{Sound, sound_none, sound_more, face_at, count_faces}

-- two tests that pass together are one
same_test : (a b : Bool) → (a ≡ true → b ≡ true) → (b ≡ true → a ≡ true) → a ≡ b
same_test true true f g = refl
same_test true false f g = sym (f refl)
same_test false true f g = g refl
same_test false false f g = refl

-- a key is the same for both directions, and tells the two vertices
key_cases : (u v : ℕ) → ((u ≤ v) × (key_of u v ≡ v * 4294967296 + u)) ⊎ ((v < u) × (key_of u v ≡ u * 4294967296 + v))
unfolding key_of
key_cases u v = go (dec_lt v u)
  where
    go : Dec (v < u) → ((u ≤ v) × (key_of u v ≡ v * 4294967296 + u)) ⊎ ((v < u) × (key_of u v ≡ u * 4294967296 + v))
    go (yes h) = inr (h, rw (lt-ltb v u h))
    go (no h) = inl (omega arith, rw (le-ltb v u (omega arith)))

key_swap : (u v : ℕ) → key_of u v ≡ key_of v u
key_swap u v = go (key_cases u v) (key_cases v u)
  where
    go : ((u ≤ v) × (key_of u v ≡ v * 4294967296 + u)) ⊎ ((v < u) × (key_of u v ≡ u * 4294967296 + v))
        → ((v ≤ u) × (key_of v u ≡ u * 4294967296 + v)) ⊎ ((u < v) × (key_of v u ≡ v * 4294967296 + u)) → key_of u v ≡ key_of v u
    go (inl (a, b)) (inl (c, d)) = let z : u ≡ v = omega arith in rw z
    go (inl (a, b)) (inr (c, d)) = omega arith
    go (inr (a, b)) (inl (c, d)) = omega arith
    go (inr (a, b)) (inr (c, d)) = absurd (omega arith)

-- two digits of a number in any base
digits_high : (D x y a b : ℕ) → y < D → b < D → x * D + y ≡ a * D + b → x ≡ a
digits_high D x y a b h l e = sym (digits_div x h) ∙ (ap (λ (n : ℕ). n / D) e ∙ digits_div a l)

digits_low : (D x y a b : ℕ) → y < D → b < D → x * D + y ≡ a * D + b → y ≡ b
digits_low D x y a b h l e = sym (digits_mod x h) ∙ (ap (λ (n : ℕ). n % D) e ∙ digits_mod a l)

-- the same two vertices
data Two (u v a b : ℕ) : Type 0 where
  straight : u ≡ a → v ≡ b → Two u v a b
  crossed : u ≡ b → v ≡ a → Two u v a b

key_two : (u v a b : ℕ) → u < 4294967296 → v < 4294967296 → a < 4294967296 → b < 4294967296 → key_of u v ≡ key_of a b → Two u v a b
key_two u v a b hu hv ha hb e = go (key_cases u v) (key_cases a b)
  where
    D : ℕ
    D = 4294967296

    go : ((u ≤ v) × (key_of u v ≡ v * 4294967296 + u)) ⊎ ((v < u) × (key_of u v ≡ u * 4294967296 + v))
        → ((a ≤ b) × (key_of a b ≡ b * 4294967296 + a)) ⊎ ((b < a) × (key_of a b ≡ a * 4294967296 + b)) → Two u v a b
    go (inl (x, p)) (inl (y, q)) = let w = sym p ∙ (e ∙ q) in straight (digits_low D v u b a hu ha w) (digits_high D v u b a hu ha w)
    go (inl (x, p)) (inr (y, q)) = let w = sym p ∙ (e ∙ q) in crossed (digits_low D v u a b hu hb w) (digits_high D v u a b hu hb w)
    go (inr (x, p)) (inl (y, q)) = let w = sym p ∙ (e ∙ q) in crossed (digits_high D u v b a hv ha w) (digits_low D u v b a hv ha w)
    go (inr (x, p)) (inr (y, q)) = let w = sym p ∙ (e ∙ q) in straight (digits_high D u v a b hv hb w) (digits_low D u v a b hv hb w)

-- a corner's vertices are below a bound
pub record Below (bound : ℕ) (k : Corner) : Type 0 where
  pub own : k.own < bound
  pub far : k.far < bound

alike_key : (a b : Corner) → Below 4294967296 a → Below 4294967296 b → alike a b ≡ eqb (key_of a.own a.far) (key_of b.own b.far)
alike_key a b p q =
    same_test (alike a b) (eqb (key_of a.own a.far) (key_of b.own b.far)) (λ e. to (alike_cases a b e))
    (λ e. from (key_two a.own a.far b.own b.far p.own p.far q.own q.far
    (eqb-true (key_of a.own a.far) (key_of b.own b.far) e)))
  where
    to : ((a.own ≡ b.own) × (a.far ≡ b.far)) ⊎ ((a.own ≡ b.far) × (a.far ≡ b.own)) → eqb (key_of a.own a.far) (key_of b.own b.far) ≡ true
    to (inl (x, y)) = eq-eqb (key_of a.own a.far) (key_of b.own b.far) (rw (x, y))
    to (inr (x, y)) = eq-eqb (key_of a.own a.far) (key_of b.own b.far) (rw (x, y) (key_swap b.far b.own))

    from : Two a.own a.far b.own b.far → alike a b ≡ true
    from (straight x y) = alike_straight a b x y
    from (crossed x y) = alike_crossed a b x y

-- the corners of the first of some faces
all_append : (c : ℕ) (fs gs : List (List ℕ)) → all_corners c (fs ++ gs) ≡ all_corners c fs ++ all_corners (c + length (all_corners 0 fs)) gs
unfolding all_corners
all_append c [] gs = let z : c + 0 ≡ c = omega arith in rw z
all_append c (f ∷ fs) gs =
    let total = length_all 0 f fs in
    let same = length_from (0 + length f) fs in
    let z : c + length f + length (all_corners 0 fs) ≡ c + length (all_corners 0 (f ∷ fs)) = omega (arith, total, same) in
    ap (λ (l : List Corner). corners c f ++ l) (all_append (c + length f) fs gs ∙ rw z)
    ∙ sym (append_assoc (corners c f) (all_corners (c + length f) fs) (all_corners (c + length (all_corners 0 (f ∷ fs))) gs))

front_corner : (fs gs : List (List ℕ)) (j : ℕ) → j < length (all_corners 0 fs) → corner_at (all_corners 0 (fs ++ gs)) j ≡ corner_at (all_corners 0 fs) j
unfolding corner_at
front_corner fs gs j h = rw (all_append 0 fs gs) (get_or-append (all_corners 0 fs) (all_corners (0 + length (all_corners 0 fs)) gs) _ j h)

-- faces without a flaw are not empty, none is poor, and no vertex is too large
sound_full : {vertices : ℕ} {fs : List (List ℕ)} → Sound vertices fs → Full fs
sound_full sound_none = none
sound_full (sound_more {f} {fs} x y s) = go f y (sound_full s)
  where
    go : (f : List ℕ) → poor f ≡ false → Full fs → Full (f ∷ fs)
    go [] y r = let h = face_three [] y in absurd (omega arith)
    go (v ∷ vs) y r = more r

pub sound_rich : {vertices : ℕ} {fs : List (List ℕ)} → Sound vertices fs → some poor fs ≡ false
unfolding some
sound_rich sound_none = refl
sound_rich (sound_more x y s) = rw (y, sound_rich s)

sound_large : {vertices : ℕ} {fs : List (List ℕ)} → Sound vertices fs → (k : ℕ) → k < length fs → large vertices (get_or fs k []) ≡ false
sound_large sound_none k h = absurd (omega arith)
sound_large (sound_more x y s) zero h = x
sound_large (sound_more x y s) (suc k) h = sound_large s k (omega arith)

vertex_below : (vertices : ℕ) (f : List ℕ) → large vertices f ≡ false → (i : ℕ) → i < length f → get_or f i 0 < vertices
unfolding large
vertex_below vertices f e i h = leb-false vertices (get_or f i 0) (some_none (λ v. leb vertices v) f e i 0 h)

corner_below : (vertices : ℕ) (fs : List (List ℕ)) → Sound vertices fs → (c : ℕ) → c < length (all_corners 0 fs)
    → Below vertices (corner_at (all_corners 0 fs) c)
corner_below vertices fs s c h = record {
  own = rw (own_at fs k c o) (small (c - start_of fs k) (omega (arith, o.from, o.up_to)));
  far = ahead (dec_lt (suc c) (start_of fs (suc k)));
}
  where
    k : ℕ
    k = (of_some fs c h).0

    o : Of fs k c
    o = (of_some fs c h).1

    small : (i : ℕ) → start_of fs k + i < start_of fs (suc k) → get_or (get_or fs k []) i 0 < vertices
    small i l =
        let known = of_known fs k c o in
        vertex_below vertices (get_or fs k []) (sound_large s k known) i (omega (arith, start_next fs k known))

    ahead : Dec (suc c < start_of fs (suc k)) → (corner_at (all_corners 0 fs) c).far < vertices
    ahead (yes l) = rw (far_at fs k c o l) (small (suc c - start_of fs k) (omega (arith, o.from)))
    ahead (no l) = rw (far_last fs k c o (omega (arith, o.up_to))) (small 0 (omega (arith, o.from, o.up_to)))

get_d_map : {A B : Type 0} (f : A → B) (l : List A) (j : ℕ) (d : A) → get_or (map f l) j (f d) ≡ f (get_or l j d)
get_d_map f [] j d = refl
get_d_map f (a ∷ l) zero d = refl
get_d_map f (a ∷ l) (suc j) d = get_d_map f l j d

-- a text whose first faces have no flaw
module _ (t : List ℕ) (passed rest : List (List ℕ)) (vertices count p x : ℕ) (sound : Sound vertices passed) (small : vertices ≤ 4294967296)
    (read : several (face t) count p ≡ good (passed ++ rest) x) where
  -- the steps tell the corners
  step_use : (j : ℕ) → j < length (all_corners 0 passed) → use_of (step_at t (begun p) j) ≡ bare (corner_at (all_corners 0 (passed ++ rest)) j)
  unfolding corner_at
  step_use j h =
      let (q, r) = faces_run t passed rest (sound_full sound) 0 count p x read in
      sym (run_at t r j h)
      ∙ (get_d_map bare (all_corners 0 passed) j (record { own = 0; far = 0; first = 0; left = 0 }) ∙ ap bare (sym (front_corner passed rest j h)))

  pub own_told : (j : ℕ) → j < length (all_corners 0 passed) → (step_at t (begun p) j).own ≡ (corner_at (all_corners 0 (passed ++ rest)) j).own
  own_told j h = ap (λ (u : Use). u.own) (step_use j h)

  far_told : (j : ℕ) → j < length (all_corners 0 passed) → (step_at t (begun p) j).far ≡ (corner_at (all_corners 0 (passed ++ rest)) j).far
  far_told j h = ap (λ (u : Use). u.far) (step_use j h)

  pub left_told : (j : ℕ) → j < length (all_corners 0 passed) → (step_at t (begun p) j).left ≡ (corner_at (all_corners 0 (passed ++ rest)) j).left
  left_told j h = ap (λ (u : Use). u.left) (step_use j h)

  within : (j : ℕ) → j < length (all_corners 0 passed) → Below 4294967296 (corner_at (all_corners 0 (passed ++ rest)) j)
  within j h =
      let b = corner_below vertices passed sound j h in
      rw (front_corner passed rest j h) (record { own = omega (arith, b.own); far = omega (arith, b.far) })

  -- two corners are alike exactly if their keys are equal
  pub alike_told : (i j : ℕ) → i < length (all_corners 0 passed) → j < length (all_corners 0 passed)
      → alike (corner_at (all_corners 0 (passed ++ rest)) i) (corner_at (all_corners 0 (passed ++ rest)) j) ≡ eqb (key_at t (begun p) i) (key_at t (begun p) j)
  unfolding key_at
  alike_told i j hi hj =
      rw (own_told i hi, far_told i hi, own_told j hj, far_told j hj)
      (alike_key (corner_at (all_corners 0 (passed ++ rest)) i) (corner_at (all_corners 0 (passed ++ rest)) j) (within i hi) (within j hj))

  -- so third uses are
  pub third_told : (c : ℕ) → c < length (all_corners 0 passed) → third (all_corners 0 (passed ++ rest)) c ≡ third_use (key_at t (begun p)) c
  unfolding third third_use
  third_told c h =
      ap (leb 2)
      (count_same c (λ e. alike (corner_at (all_corners 0 (passed ++ rest)) c) (corner_at (all_corners 0 (passed ++ rest)) e))
      (λ e. eqb (key_at t (begun p) c) (key_at t (begun p) e)) (λ e l. alike_told c e h (omega arith)))

  -- and as many faces end before a corner as the number of its face says
  pub face_told : (c : ℕ) → c < length (all_corners 0 passed) → count_below c (last_at t (begun p)) ≡ face_at c passed
  unfolding last_at
  face_told c h =
      count_same c (last_at t (begun p)) (λ j. leb (corner_at (all_corners 0 passed) j).left 1)
      (λ j l. ap (λ (n : ℕ). leb n 1) (left_told j (omega arith) ∙ ap (λ (k : Corner). k.left) (front_corner passed rest j (omega arith))))
      ∙ count_faces vertices 0 passed sound c h
