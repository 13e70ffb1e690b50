-- Laws of the building: entries filled in one after another, the six links of a corner out of what is kept of it, and how far the loop has come. Rests on the
-- rules' Lists, Corners and Built.
use Prim.Native.Nat.{ℕ, suc, ◌+◌, ◌*◌, ◌-◌, ◌/◌, ◌%◌, ◌≤◌, ◌<◌}
use mathlib.Core.Path.{◌≡◌, refl, ap, sym, ◌∙◌}
use mathlib.Core.Logic.{◌≢◌, ◌⊎◌, inl, inr}
use mathlib.Core.Bool.{true, false, cond}
use mathlib.Core.List.{List, [], ◌∷◌, ◌++◌, map, append_assoc, map-append}
use native.Mathlib.Omega.{arith}
use native.Mathlib.Decide.{ℕ_discrete, dec_lt}
use lib.ListN.{length, get_or, set, drop, length-set}
use lib.Seq.{drop-cons, set_at}
use lib.Dec.{eqb}
use borrow.Author.Tests.{lt-ltb, le-ltb, le-leb, lt-leb, eq-eqb, ne_eqb}
use Rattle.rules.specs.Lists.{span, range, list_of}
use Rattle.rules.specs.Map.{by_dart, mark}
use Rattle.rules.specs.Exchange.{rank_at, dart_at}
use Rattle.shapes.specs.Faces.{Corner, all_corners, corner_at, darts_of, corner_before, corner_after, twin, link_from, map_on}
use Rattle.rules.proofs.Lists.{range_snoc, length_list_of}
use Rattle.shapes.proofs.Corners.{framed, own_far, first_zero, next_face, next_first_lem}
use Rattle.shapes.proofs.Built.{alike_cases, twin_alike, zero_own, zero_far, one_own, one_far, free_own, free_far, twin_own, twin_far}
use Rattle.build.specs.declared.Joined.{Joined}
use Rattle.build.specs.Parts.{joined_at, six_put, Lefts, Holds, Builds}

-- f 0, .., f (k - 1) in front of what stands after k entries of t
unfoldable pub filled : (ℕ → ℕ) → ℕ → List ℕ → List ℕ
filled f k t = list_of k f ++ drop k t

-- one more
filled_next : (f : ℕ → ℕ) (k : ℕ) (t : List ℕ) (v : ℕ) → k < length t → v ≡ f k → set (filled f k t) k v ≡ filled f (suc k) t
unfolding filled list_of
filled_next f k t v h e =
    let s : map f (range 0 (suc k)) ≡ map f (range 0 k) ++ (f k ∷ []) = rw (← range_snoc 0 k (omega arith)) (map-append f (range 0 k) (k ∷ [])) in
    rw (e, drop-cons t k 0 h, set_at (map f (range 0 k)) (get_or t k 0) (drop (suc k) t) (f k) k (length_list_of k f), s)
    (sym (append_assoc (map f (range 0 k)) (f k ∷ []) (drop (suc k) t)))

-- the six links of a corner
six_filled : (f : ℕ → ℕ) (t : List ℕ) (k b a : ℕ) (e : Joined) → 6 * k + 6 ≤ length t → 2 * k + 1 ≡ f (6 * k) → 2 * b + 1 ≡ f (6 * k + 1)
    → e.own ≡ f (6 * k + 2) → 2 * k ≡ f (6 * k + 3) → 2 * a ≡ f (6 * k + 4) → e.far ≡ f (6 * k + 5)
    → six_put (filled f (6 * k) t) k b a e ≡ filled f (6 * (k + 1)) t
unfolding six_put
six_filled f t k b a e h p q r s u v =
    let one : suc (6 * k) ≡ 6 * k + 1 = omega arith in
    let two : suc (6 * k + 1) ≡ 6 * k + 2 = omega arith in
    let three : suc (6 * k + 2) ≡ 6 * k + 3 = omega arith in
    let four : suc (6 * k + 3) ≡ 6 * k + 4 = omega arith in
    let five : suc (6 * k + 4) ≡ 6 * k + 5 = omega arith in
    let six : suc (6 * k + 5) ≡ 6 * (k + 1) = omega arith in
    rw (
      filled_next f (6 * k) t (2 * k + 1) (omega arith) p,
      one,
      filled_next f (6 * k + 1) t (2 * b + 1) (omega arith) q,
      two,
      filled_next f (6 * k + 2) t e.own (omega arith) r,
      three,
      filled_next f (6 * k + 3) t (2 * k) (omega arith) s,
      four,
      filled_next f (6 * k + 4) t (2 * a) (omega arith) u,
      five,
      filled_next f (6 * k + 5) t e.far (omega arith) v,
      six,
    )

-- as many entries as before
six_long : (t : List ℕ) (k b a : ℕ) (e : Joined) → length (six_put t k b a e) ≡ length t
unfolding six_put
six_long t k b a e = simp length-set

-- the link at a position of the tables by dart
unfoldable pub entry : List Corner → ℕ → ℕ
entry cs p = link_from cs (p % 3) (p / 3)

-- those of corner k's own dart
module _ (cs : List Corner) (k : ℕ) where
  at_own : (i : ℕ) → i < 3 → entry cs (6 * k + i) ≡ link_from cs i (2 * k)
  unfolding entry
  at_own i h = let r : (6 * k + i) % 3 ≡ i = omega arith in let d : (6 * k + i) / 3 ≡ 2 * k = omega arith in rw (r, d)

  -- and of its far one
  at_far : (i : ℕ) → i < 3 → entry cs (6 * k + (3 + i)) ≡ link_from cs i (2 * k + 1)
  unfolding entry
  at_far i h = let r : (6 * k + (3 + i)) % 3 ≡ i = omega arith in let d : (6 * k + (3 + i)) / 3 ≡ 2 * k + 1 = omega arith in rw (r, d)

-- the corners before and after, out of what is kept of corner k
module _ (cs : List Corner) (k first left : ℕ) (p : first ≡ (corner_at cs k).first) (q : left ≡ (corner_at cs k).left) where
  before_is : (b : ℕ) → b ≡ cond (eqb k first) (k + left - 1) (k - 1) → b ≡ corner_before cs k
  unfolding corner_before
  before_is b e = rw (← p, ← q) e

  after_is : (a : ℕ) → a ≡ cond (eqb left 1) first (k + 1) → a ≡ corner_after cs k
  unfolding corner_after
  after_is a e = rw (← p, ← q) e

-- a2 of its two darts
Ends : List Corner → ℕ → Joined → Type 0
Ends cs k e = (e.own ≡ link_from cs 2 (2 * k)) × (e.far ≡ link_from cs 2 (2 * k + 1))

module _ (cs : List Corner) (twins owns : List ℕ) (k : ℕ) where
  ends_free : length cs ≤ twin cs k → get_or twins k 0 ≡ mark → Ends cs k (joined_at owns twins k)
  unfolding Ends joined_at
  ends_free l m = rw m (sym (free_own cs k l), sym (free_far cs k l))

  module _ (e : ℕ) (t : twin cs k ≡ e) (l : e < length cs) (low : e < 2048) (m : get_or twins k 0 ≡ e) (u : get_or owns e 0 ≡ (corner_at cs e).own)
      (v : get_or owns k 0 ≡ (corner_at cs k).own) (apart : (corner_at cs k).own ≢ (corner_at cs k).far) where
    ends_straight : (corner_at cs k).own ≡ (corner_at cs e).own → Ends cs k (joined_at owns twins k)
    unfolding Ends joined_at
    ends_straight p =
        let o : eqb (corner_at cs e).own (corner_at cs k).own ≡ true = eq-eqb (corner_at cs e).own (corner_at cs k).own (sym p) in
        let f : eqb (corner_at cs e).own (corner_at cs k).far ≡ false = ne_eqb (corner_at cs e).own (corner_at cs k).far (λ z. apart (p ∙ z)) in
        rw (m, lt-leb 2048 e low, u, v, o) (sym (twin_own cs k e t l ∙ rw o), sym (twin_far cs k e t l ∙ rw f))

    ends_crossed : (corner_at cs k).far ≡ (corner_at cs e).own → Ends cs k (joined_at owns twins k)
    unfolding Ends joined_at
    ends_crossed p =
        let o : eqb (corner_at cs e).own (corner_at cs k).own ≡ false = ne_eqb (corner_at cs e).own (corner_at cs k).own (λ z. apart (sym (p ∙ z))) in
        let f : eqb (corner_at cs e).own (corner_at cs k).far ≡ true = eq-eqb (corner_at cs e).own (corner_at cs k).far (sym p) in
        rw (m, lt-leb 2048 e low, u, v, o) (sym (twin_own cs k e t l ∙ rw o), sym (twin_far cs k e t l ∙ rw f))

-- out of what is kept of the corners of these faces
ends_are : {fs : List (List ℕ)} {twins owns lefts : List ℕ} → Holds fs twins owns lefts → length (all_corners 0 fs) ≤ 2048 → (k : ℕ)
    → k < length (all_corners 0 fs) → Ends (all_corners 0 fs) k (joined_at owns twins k)
ends_are {fs = fs} {twins = twins} {owns = owns} H few k h = go (dec_lt e (length cs))
  where
    cs : List Corner
    cs = all_corners 0 fs

    e : ℕ
    e = twin cs k

    go : Dec (e < length cs) → Ends cs k (joined_at owns twins k)
    go (yes l) = by (alike_cases (corner_at cs k) (corner_at cs e) (twin_alike cs k l))
      where
        m : get_or twins k 0 ≡ e
        m = H.twin k h ∙ rw (lt-ltb e (length cs) l)

        by : (((corner_at cs k).own ≡ (corner_at cs e).own) × ((corner_at cs k).far ≡ (corner_at cs e).far))
            ⊎ (((corner_at cs k).own ≡ (corner_at cs e).far) × ((corner_at cs k).far ≡ (corner_at cs e).own)) → Ends cs k (joined_at owns twins k)
        by (inl (p, q)) = ends_straight cs twins owns k e refl l (omega arith) m (H.own e l) (H.own k h) (own_far fs H.rich k h) p
        by (inr (p, q)) = ends_crossed cs twins owns k e refl l (omega arith) m (H.own e l) (H.own k h) (own_far fs H.rich k h) q
    go (no l) = ends_free cs twins owns k (omega arith) (H.twin k h ∙ rw (le-ltb e (length cs) (omega arith)))

-- how far the building has come: the links of k corners stand, for any faces that so much is kept of
pub record Building (twins owns lefts : List ℕ) (corners : ℕ) (t t' : List ℕ) (first k : ℕ) : Type 0 where
  pub up_to : k ≤ corners
  pub begun : first ≤ k
  pub long : length t' ≡ length t
  pub links : (fs : List (List ℕ)) → Holds fs twins owns lefts → length (all_corners 0 fs) ≡ corners → t' ≡ filled (entry (all_corners 0 fs)) (6 * k) t
  pub face : (fs : List (List ℕ)) → Holds fs twins owns lefts → length (all_corners 0 fs) ≡ corners → k < corners
      → first ≡ (corner_at (all_corners 0 fs) k).first

pub building_start : (twins owns lefts : List ℕ) (corners : ℕ) (t : List ℕ) → Building twins owns lefts corners t t 0 0
unfolding filled list_of range span
building_start twins owns lefts corners t = record {
  up_to = omega arith;
  begun = omega arith;
  long = refl;
  links = λ fs H n. refl;
  face = λ fs H n h. sym (first_zero (all_corners 0 fs) (framed fs) (omega arith));
}

-- one more corner
module _ {twins owns lefts : List ℕ} {corners : ℕ} {t t' : List ℕ} {first k : ℕ} (B : Building twins owns lefts corners t t' first k)
    (L : Lefts lefts corners) (room : 6 * corners ≤ length t) (h : k < corners) where
  -- the first corner of the next corner's face
  module _ (first' : ℕ) (u : first' ≡ cond (eqb (get_or lefts k 0) 1) (k + 1) first) where
    last : get_or lefts k 0 ≡ 1 → first' ≡ k + 1
    last x = rw (eq-eqb (get_or lefts k 0) 1 x) at u

    other : get_or lefts k 0 ≢ 1 → first' ≡ first
    other x = rw (ne_eqb (get_or lefts k 0) 1 x) at u

    next_begun : first' ≤ k + 1
    next_begun = go (ℕ_discrete (get_or lefts k 0) 1)
      where
        go : Dec (get_or lefts k 0 ≡ 1) → first' ≤ k + 1
        go (yes x) = omega (arith, last x)
        go (no x) = omega (arith, other x, B.begun)

    next_is : (fs : List (List ℕ)) → Holds fs twins owns lefts → length (all_corners 0 fs) ≡ corners → k + 1 < corners
        → first' ≡ (corner_at (all_corners 0 fs) (k + 1)).first
    next_is fs H n l = go (ℕ_discrete (get_or lefts k 0) 1)
      where
        left : get_or lefts k 0 ≡ (corner_at (all_corners 0 fs) k).left
        left = H.left k (omega arith)

        go : Dec (get_or lefts k 0 ≡ 1) → first' ≡ (corner_at (all_corners 0 fs) (k + 1)).first
        go (yes x) = last x ∙ sym (next_face (all_corners 0 fs) (framed fs) k (omega arith) (sym left ∙ x))
        go (no x) = other x ∙ (B.face fs H n h ∙ sym (next_first_lem (all_corners 0 fs) (framed fs) k (omega arith) (λ z. x (left ∙ z))))

  -- its links
  module _ (b a : ℕ) (e : Joined) (p : b ≡ cond (eqb k first) (k + get_or lefts k 0 - 1) (k - 1)) (q : a ≡ cond (eqb (get_or lefts k 0) 1) first (k + 1))
      (r : e ≡ joined_at owns twins k) where
    next_links : (fs : List (List ℕ)) → Holds fs twins owns lefts → length (all_corners 0 fs) ≡ corners
        → six_put t' k b a e ≡ filled (entry (all_corners 0 fs)) (6 * (k + 1)) t
    unfolding Ends
    next_links fs H n =
        let cs = all_corners 0 fs in
        let hk : k < length cs = omega arith in
        let z : 6 * k + 0 ≡ 6 * k = omega arith in
        let f = B.face fs H n h in
        let m = H.left k hk in
        let x : Ends cs k e = rw r (ends_are H (omega (arith, L.few)) k hk) in
        rw (B.links fs H n)
        (six_filled (entry cs) t k b a e (omega arith)
        (sym (ap (entry cs) (sym z) ∙ (at_own cs k 0 (omega arith) ∙ zero_own cs k)))
        (ap (λ (i : ℕ). 2 * i + 1) (before_is cs k first (get_or lefts k 0) f m b p) ∙ sym (at_own cs k 1 (omega arith) ∙ one_own cs k))
        (x.0 ∙ sym (at_own cs k 2 (omega arith)))
        (sym (at_far cs k 0 (omega arith) ∙ zero_far cs k))
        (ap (λ (i : ℕ). 2 * i) (after_is cs k first (get_or lefts k 0) f m a q) ∙ sym (at_far cs k 1 (omega arith) ∙ one_far cs k))
        (x.1 ∙ sym (at_far cs k 2 (omega arith))))

    pub building_next : (first' : ℕ) (t'' : List ℕ) → t'' ≡ six_put t' k b a e → first' ≡ cond (eqb (get_or lefts k 0) 1) (k + 1) first
        → Building twins owns lefts corners t t'' first' (k + 1)
    building_next first' t'' s u = record {
      up_to = omega arith;
      begun = next_begun first' u;
      long = ap length s ∙ (six_long t' k b a e ∙ B.long);
      links = λ fs H n. s ∙ next_links fs H n;
      face = next_is first' u;
    }

-- with all of them the tables are built
filled_map : (cs : List Corner) (t : List ℕ) → 6 * length cs ≤ length t → filled (entry cs) (6 * length cs) t ≡ map_on by_dart cs t
unfolding filled entry map_on darts_of rank_at dart_at
filled_map cs t h =
    let n : 6 * length cs ≡ 3 * (2 * length cs) = omega arith in
    rw (le-leb (3 * (2 * length cs)) (length t) (omega arith), n)

pub building_end : {twins owns lefts : List ℕ} {corners : ℕ} {t t' : List ℕ} {first k : ℕ} → Building twins owns lefts corners t t' first k
    → 6 * corners ≤ length t → corners ≤ k → Builds twins owns lefts corners t t'
building_end {corners = corners} {t = t} {k = k} B room h = record {
  long = B.long;
  is = λ fs H n.
      let cs = all_corners 0 fs in
      let e : k ≡ length cs = omega (arith, B.up_to) in
      B.links fs H n ∙ (ap (λ (i : ℕ). filled (entry cs) (6 * i) t) e ∙ filled_map cs t (omega arith));
}
