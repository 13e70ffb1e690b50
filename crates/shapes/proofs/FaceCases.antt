-- A face file is refused by 27, 28 or 29 exactly where that number's case holds of a face, no case of a face before it does, and no lower number's of the
-- same face; where no case holds, what comes later decides. Rests on Lists, Counts, Corners and Built.
use Prim.Native.Nat.{ℕ, zero, suc, ◌+◌, ◌*◌, ◌-◌, ◌≤◌, ◌<◌}
use mathlib.Core.Path.{◌≡◌, refl, sym, ◌∙◌}
use mathlib.Core.Logic.{◌⊎◌, inl, inr}
use mathlib.Core.Bool.{Bool, true, false}
use mathlib.Core.List.{List, [], ◌∷◌}
use native.Mathlib.Omega.{arith}
use native.Mathlib.Decide.{dec_lt}
use lib.ListN.{length, get_or, drop, drop_of_length-le}
use lib.Seq.{drop-cons}
use lib.Dec.{eqb, ltb, leb}
use borrow.Author.Tests.{lt-ltb, le-ltb, ltb-true, le-leb, leb-true, leb-false, eqb-true}
use Rattle.rules.specs.Lists.{some_below}
use Rattle.rules.specs.Check.{Verdict, refuse_if}
use Rattle.shapes.specs.Faces.{Corner, corners, all_corners, corner_at, alike, some, large, poor, third, faces_verdict}
use Rattle.rules.proofs.Lists.{or_cases, not_both, some_below_lem, below_some}
use Rattle.shapes.proofs.Counts.{count_two, two_count}
use Rattle.shapes.proofs.Built.{alike_cases, alike_straight, alike_crossed}
use Rattle.shapes.proofs.Corners.{corner_of, corner_to, length_corners, corners_at, start_of, Of, start_zero, start_next, of_known, of_some}
use Rattle.shapes.proofs.Corners.{some_none, none_some, face_three, face_apart}

-- two sides have the same two vertices, along each other or against
pub data SameTwo (x y : Corner) : Type 0 where
  along : x.own ≡ y.own → x.far ≡ y.far → SameTwo x y
  against : x.own ≡ y.far → x.far ≡ y.own → SameTwo x y

-- document 02, E5: when each number's case holds of a face. 27: a vertex number too large; 28: fewer than three corners or two equal neighbours, last and
-- first included; 29: a side used a third time
pub data FaceCase (vertices : ℕ) (fs : List (List ℕ)) : (number face : ℕ) → Type 0 where
  too_large : (k i : ℕ) → k < length fs → i < length (get_or fs k []) → vertices ≤ get_or (get_or fs k []) i 0 → FaceCase vertices fs 27 k
  few : (k : ℕ) → k < length fs → length (get_or fs k []) < 3 → FaceCase vertices fs 28 k
  level : (k i : ℕ) → k < length fs → suc i < length (get_or fs k []) → get_or (get_or fs k []) i 0 ≡ get_or (get_or fs k []) (suc i) 0
      → FaceCase vertices fs 28 k
  closed : (k i : ℕ) → k < length fs → suc i ≡ length (get_or fs k []) → get_or (get_or fs k []) i 0 ≡ get_or (get_or fs k []) 0 0 → FaceCase vertices fs 28 k
  thrice : (k a b c : ℕ) → Of fs k c → a < b → b < c → SameTwo (corner_at (all_corners 0 fs) a) (corner_at (all_corners 0 fs) c)
      → SameTwo (corner_at (all_corners 0 fs) b) (corner_at (all_corners 0 fs) c) → FaceCase vertices fs 29 k

-- face by face: a number and face come before others if the face does, or the number for the same face
pub data Earlier (nr face nr' face' : ℕ) : Type 0 where
  sooner : face < face' → Earlier nr face nr' face'
  lower : face ≡ face' → nr < nr' → Earlier nr face nr' face'

-- the test of two sides
pub alike_same : (x y : Corner) → alike x y ≡ true → SameTwo x y
alike_same x y e = go (alike_cases x y e)
  where
    go : ((x.own ≡ y.own) × (x.far ≡ y.far)) ⊎ ((x.own ≡ y.far) × (x.far ≡ y.own)) → SameTwo x y
    go (inl (p, q)) = along p q
    go (inr (p, q)) = against p q

pub same_alike : (x y : Corner) → SameTwo x y → alike x y ≡ true
same_alike x y (along p q) = alike_straight x y p q
same_alike x y (against p q) = alike_crossed x y p q

pub same_flip : {x y : Corner} → SameTwo x y → SameTwo y x
same_flip (along p q) = along (sym p) (sym q)
same_flip (against p q) = against (sym q) (sym p)

-- a third use: two corners before c have the same two vertices
pub third_thrice : (cs : List Corner) (c : ℕ) → third cs c ≡ true
    → (a : ℕ) × (b : ℕ) × (a < b) × (b < c) × SameTwo (corner_at cs a) (corner_at cs c) × SameTwo (corner_at cs b) (corner_at cs c)
unfolding third
third_thrice cs c e =
    let (a, b, l, m, p, q) = two_count c (λ e. alike (corner_at cs c) (corner_at cs e)) (leb-true 2 _ e) in
    (a, b, l, m, same_flip (alike_same (corner_at cs c) (corner_at cs a) p), same_flip (alike_same (corner_at cs c) (corner_at cs b) q))

pub thrice_third : (cs : List Corner) (c a b : ℕ) → a < b → b < c → SameTwo (corner_at cs a) (corner_at cs c) → SameTwo (corner_at cs b) (corner_at cs c)
    → third cs c ≡ true
unfolding third
thrice_third cs c a b l m p q =
    le-leb 2 _ (count_two c (λ e. alike (corner_at cs c) (corner_at cs e)) a b l m
    (same_alike (corner_at cs c) (corner_at cs a) (same_flip p)) (same_alike (corner_at cs c) (corner_at cs b) (same_flip q)))

-- a test that some entry of a list passes
some_at : {A : Type 0} (f : A → Bool) (xs : List A) (x : A) → some f xs ≡ true → (i : ℕ) × (i < length xs) × (f (get_or xs i x) ≡ true)
unfolding some
some_at f [] x e = let z : ◌≡◌ {A = ℕ} 0 1 = cc in absurd (omega arith)
some_at f (y ∷ xs) x e = go (or_cases (f y) (some f xs) e) (λ q. some_at f xs x q)
  where
    go : (f y ≡ true) ⊎ (some f xs ≡ true) → (some f xs ≡ true → (i : ℕ) × (i < length xs) × (f (get_or xs i x) ≡ true))
        → (i : ℕ) × (i < suc (length xs)) × (f (get_or (y ∷ xs) i x) ≡ true)
    go (inl q) rec = (0, omega arith, q)
    go (inr q) rec = let (i, l, p) = rec q in (suc i, omega arith, p)

-- the far vertex of a face's corner
far_inner : (c : ℕ) (f : List ℕ) (j : ℕ) → suc j < length f → (corner_of c f j).far ≡ get_or f (suc j) 0
unfolding corner_of corner_to
far_inner c f j h = rw (lt-ltb (suc j) (length f) h)

far_end : (c : ℕ) (f : List ℕ) (j : ℕ) → suc j ≡ length f → (corner_of c f j).far ≡ get_or f 0 0
unfolding corner_of corner_to
far_end c f j h = rw (le-ltb (suc j) (length f) (omega arith))

-- a poor face has fewer than three corners, or one whose two vertices are equal
poor_cases : (f : List ℕ) → poor f ≡ true → (length f < 3) ⊎ ((j : ℕ) × (j < length f) × ((corner_of 0 f j).own ≡ (corner_of 0 f j).far))
unfolding poor corner_at
poor_cases f e = go (or_cases _ _ e)
  where
    go : (ltb (length f) 3 ≡ true) ⊎ (some (λ (k : Corner). eqb k.own k.far) (corners 0 f) ≡ true)
        → (length f < 3) ⊎ ((j : ℕ) × (j < length f) × ((corner_of 0 f j).own ≡ (corner_of 0 f j).far))
    go (inl q) = inl (ltb-true (length f) 3 q)
    go (inr q) =
        let (j, l, p) = some_at (λ (k : Corner). eqb k.own k.far) (corners 0 f) (record { own = 0; far = 0; first = 0; left = 0 }) q in
        let h : j < length f = omega (arith, length_corners 0 f) in
        inr ((j, h, eqb-true (corner_of 0 f j).own (corner_of 0 f j).far (rw (corners_at 0 f j h) at p)))

-- the place of a number's case among all: three for each face
abbrev rank : ℕ → ℕ → ℕ
rank nr k = 3 * k + nr

module _ (vertices : ℕ) (fs : List (List ℕ)) where
  abbrev cs : List Corner
  cs = all_corners 0 fs

  -- a case's number, and its face
  pub case_number : {nr k : ℕ} → FaceCase vertices fs nr k → (27 ≤ nr) × (nr ≤ 29)
  case_number (too_large k i h l m) = (omega arith, omega arith)
  case_number (few k h l) = (omega arith, omega arith)
  case_number (level k i h l e) = (omega arith, omega arith)
  case_number (closed k i h l e) = (omega arith, omega arith)
  case_number (thrice k a b c o l m p q) = (omega arith, omega arith)

  pub case_face : {nr k : ℕ} → FaceCase vertices fs nr k → k < length fs
  case_face (too_large k i h l m) = h
  case_face (few k h l) = h
  case_face (level k i h l e) = h
  case_face (closed k i h l e) = h
  case_face (thrice k a b c o l m p q) = of_known fs k c o

  -- each number's test passes where its case holds, and fails where it does not
  large_case : (k : ℕ) → k < length fs → large vertices (get_or fs k []) ≡ true → FaceCase vertices fs 27 k
  unfolding large
  large_case k h e =
      let (i, l, p) = some_at (λ v. leb vertices v) (get_or fs k []) 0 e in
      too_large k i h l (leb-true vertices (get_or (get_or fs k []) i 0) p)

  not_large : (k : ℕ) → large vertices (get_or fs k []) ≡ false → FaceCase vertices fs 27 k → ⊥
  unfolding large
  not_large k e (too_large j i h l m) =
      let q = some_none (λ v. leb vertices v) (get_or fs k []) e i 0 l in
      omega (arith, leb-false vertices (get_or (get_or fs k []) i 0) q)

  poor_case : (k : ℕ) → k < length fs → poor (get_or fs k []) ≡ true → FaceCase vertices fs 28 k
  unfolding corner_of corner_to
  poor_case k h e = go (poor_cases f e)
    where
      f : List ℕ
      f = get_or fs k []

      side : (j : ℕ) → j < length f → (corner_of 0 f j).own ≡ (corner_of 0 f j).far → Dec (suc j < length f) → FaceCase vertices fs 28 k
      side j l q (yes m) = level k j h m (q ∙ far_inner 0 f j m)
      side j l q (no m) = let z : suc j ≡ length f = omega arith in closed k j h z (q ∙ far_end 0 f j z)

      go : (length f < 3) ⊎ ((j : ℕ) × (j < length f) × ((corner_of 0 f j).own ≡ (corner_of 0 f j).far)) → FaceCase vertices fs 28 k
      go (inl l) = few k h l
      go (inr (j, l, q)) = side j l q (dec_lt (suc j) (length f))

  not_poor : (k : ℕ) → poor (get_or fs k []) ≡ false → FaceCase vertices fs 28 k → ⊥
  unfolding corner_of corner_to
  not_poor k e (few j h l) = omega (arith, face_three (get_or fs k []) e)
  not_poor k e (level j i h l q) = face_apart (get_or fs k []) e 0 i (omega arith) (q ∙ sym (far_inner 0 (get_or fs k []) i l))
  not_poor k e (closed j i h l q) = face_apart (get_or fs k []) e 0 i (omega arith) (q ∙ sym (far_end 0 (get_or fs k []) i l))

  -- some side of a face is used a third time
  abbrev crowded : ℕ → Bool
  crowded k = some_below (length (get_or fs k [])) (λ j. third cs (start_of fs k + j))

  -- a third use of a side is a case of its corner's face
  third_case : (k c : ℕ) → Of fs k c → third cs c ≡ true → FaceCase vertices fs 29 k
  third_case k c o e = let (a, b, l, m, p, q) = third_thrice cs c e in thrice k a b c o l m p q

  crowded_case : (k : ℕ) → k < length fs → crowded k ≡ true → FaceCase vertices fs 29 k
  crowded_case k h e =
      let (j, l, p) = some_below_lem (length (get_or fs k [])) (λ j. third cs (start_of fs k + j)) e in
      third_case k (start_of fs k + j) (record { from = omega arith; up_to = omega (arith, start_next fs k h) }) p

  not_crowded : (k : ℕ) → k < length fs → crowded k ≡ false → FaceCase vertices fs 29 k → ⊥
  not_crowded k h e (thrice j a b c o l m p q) =
      let i = c - start_of fs k in
      let z : start_of fs k + i ≡ c = omega (arith, o.from) in
      let t : third cs (start_of fs k + i) ≡ true = rw z (thrice_third cs c a b l m p q) in
      not_both (crowded k)
      (below_some (length (get_or fs k [])) (λ j. third cs (start_of fs k + j)) i (omega (arith, o.from, o.up_to, start_next fs k h)) t) e

  -- of the cases from a rank on, the verdict gives the first that holds; or none holds, and it is what comes later
  data Decides (from : ℕ) (v : Verdict → Verdict) : Type 0 where
    finds : (nr k : ℕ) → FaceCase vertices fs nr k → ((x y : ℕ) → from ≤ rank x y → rank x y < rank nr k → FaceCase vertices fs x y → ⊥)
        → ((later : Verdict) → v later ≡ Verdict.refused nr k) → Decides from v
    passes : ((x y : ℕ) → from ≤ rank x y → FaceCase vertices fs x y → ⊥) → ((later : Verdict) → v later ≡ later) → Decides from v

  -- one more test before the others
  chain : (nr k n : ℕ) (b : Bool) (v : Verdict → Verdict) → (27 ≤ nr) × (nr ≤ 29) → n ≡ suc (rank nr k) → (b ≡ true → FaceCase vertices fs nr k)
      → (b ≡ false → FaceCase vertices fs nr k → ⊥) → Decides n v → Decides (rank nr k) (λ later. refuse_if b nr k (v later))
  unfolding refuse_if
  chain nr k n true v N s yes-case no-case d = finds nr k (yes-case refl) (λ x y l m. absurd (omega arith)) (λ later. refl)
  chain nr k n false v N s yes-case no-case d = go d
    where
      pass : (x y : ℕ) → rank nr k ≤ rank x y → Dec (rank nr k < rank x y) → (n ≤ rank x y → FaceCase vertices fs x y → ⊥) → FaceCase vertices fs x y → ⊥
      pass x y l (yes m) h c = h (omega arith) c
      pass x y l (no m) h c =
          let B = case_number c in
          let e : y ≡ k = omega (arith, B.0, B.1, N.0, N.1) in
          let e' : x ≡ nr = omega (arith, B.0, B.1, N.0, N.1) in
          no-case refl (rw (e, e') at c)

      go : Decides n v → Decides (rank nr k) v
      go (finds x y c h e) = finds x y c (λ x' y' l m. pass x' y' l (dec_lt (rank nr k) (rank x' y')) (λ l'. h x' y' l' m)) e
      go (passes h e) = passes (λ x y l. pass x y l (dec_lt (rank nr k) (rank x y)) (h x y)) e

  -- the n faces from k on
  faces_from : (n k : ℕ) → k + n ≡ length fs → Decides (rank 27 k) (λ later. faces_verdict vertices cs k (start_of fs k) (drop k fs) later)
  unfolding faces_verdict
  faces_from zero k e =
      rw (drop_of_length-le fs {i = k} (omega arith))
      (passes (λ x y l c. omega (arith, (case_number c).0, (case_number c).1, case_face c)) (λ later. refl))
  faces_from (suc n) k e =
      let h : k < length fs = omega arith in
      rw (drop-cons fs k [] h)
      (chain 27 k (rank 28 k) (large vertices (get_or fs k [])) _ (omega arith, omega arith) (omega arith) (large_case k h) (not_large k)
      (chain 28 k (rank 29 k) (poor (get_or fs k [])) _ (omega arith, omega arith) (omega arith) (poor_case k h) (not_poor k)
      (chain 29 k (rank 27 (suc k)) (crowded k) _ (omega arith, omega arith) (omega arith) (crowded_case k h) (not_crowded k h)
      (rw (start_next fs k h) at (faces_from n (suc k) (omega arith))))))

-- what the faces come to: the first case that holds refuses, or none holds and what comes later decides
pub data FacesDecided (vertices : ℕ) (fs : List (List ℕ)) : Type 0 where
  found : (nr k : ℕ) → FaceCase vertices fs nr k → ((nr' k' : ℕ) → Earlier nr' k' nr k → FaceCase vertices fs nr' k' → ⊥)
      → ((later : Verdict) → faces_verdict vertices (all_corners 0 fs) 0 0 fs later ≡ Verdict.refused nr k) → FacesDecided vertices fs
  none : ((nr k : ℕ) → FaceCase vertices fs nr k → ⊥) → ((later : Verdict) → faces_verdict vertices (all_corners 0 fs) 0 0 fs later ≡ later)
      → FacesDecided vertices fs

pub faces_decided : (vertices : ℕ) (fs : List (List ℕ)) → FacesDecided vertices fs
faces_decided vertices fs = go (rw (start_zero fs) at (faces_from vertices fs (length fs) 0 (omega arith)))
  where
    sooner_rank : (nr k nr' k' : ℕ) → nr' ≤ 29 → 27 ≤ nr → Earlier nr' k' nr k → rank nr' k' < rank nr k
    sooner_rank nr k nr' k' h l (sooner m) = omega arith
    sooner_rank nr k nr' k' h l (lower e m) = omega arith

    go : Decides vertices fs (rank 27 0) (λ later. faces_verdict vertices (all_corners 0 fs) 0 0 (drop 0 fs) later) → FacesDecided vertices fs
    go (finds nr k c h e) = found nr k c (λ nr' k' l d.
        h nr' k' (omega (arith, (case_number vertices fs d).0)) (sooner_rank nr k nr' k' (case_number vertices fs d).1 (case_number vertices fs c).0 l) d) e
    go (passes h e) = none (λ nr k c. h nr k (omega (arith, (case_number vertices fs c).0)) c) e

-- a case that none comes before refuses
pub case_faces : (vertices : ℕ) (fs : List (List ℕ)) (nr k : ℕ) → FaceCase vertices fs nr k
    → ((nr' k' : ℕ) → Earlier nr' k' nr k → FaceCase vertices fs nr' k' → ⊥) → (later : Verdict)
    → faces_verdict vertices (all_corners 0 fs) 0 0 fs later ≡ Verdict.refused nr k
case_faces vertices fs nr k c first later = go (faces_decided vertices fs)
  where
    go : FacesDecided vertices fs → faces_verdict vertices (all_corners 0 fs) 0 0 fs later ≡ Verdict.refused nr k
    go (none h e) = absurd (h nr k c)
    go (found x y d h e) = same (dec_lt y k) (dec_lt k y) (dec_lt x nr) (dec_lt nr x)
      where
        same : Dec (y < k) → Dec (k < y) → Dec (x < nr) → Dec (nr < x) → faces_verdict vertices (all_corners 0 fs) 0 0 fs later ≡ Verdict.refused nr k
        same (yes l) m n o = absurd (first x y (sooner l) d)
        same (no l) (yes m) n o = absurd (h nr k (sooner m) c)
        same (no l) (no m) (yes n) o = absurd (first x y (lower (omega arith) n) d)
        same (no l) (no m) (no n) (yes o) = absurd (h nr k (lower (omega arith) o) c)
        same (no l) (no m) (no n) (no o) =
            let a : x ≡ nr = omega arith in
            let b : y ≡ k = omega arith in
            rw (a, b) at (e later)

-- faces of which no case holds pass every test
pub record Flawless (vertices : ℕ) (fs : List (List ℕ)) : Type 0 where
  pub inside : (k : ℕ) → k < length fs → large vertices (get_or fs k []) ≡ false
  pub full : (k : ℕ) → k < length fs → poor (get_or fs k []) ≡ false
  pub no_poor : some poor fs ≡ false
  pub twice : (c : ℕ) → c < length (all_corners 0 fs) → third (all_corners 0 fs) c ≡ false

untrue : (b : Bool) → (b ≡ true → ⊥) → b ≡ false
untrue true h = absurd (h refl)
untrue false h = refl

pub flawless_faces : (vertices : ℕ) (fs : List (List ℕ)) → ((nr k : ℕ) → FaceCase vertices fs nr k → ⊥) → Flawless vertices fs
flawless_faces vertices fs h = record {
  inside = λ k l. untrue (large vertices (get_or fs k [])) (λ e. h 27 k (large_case vertices fs k l e));
  full = rich;
  no_poor = none_some poor fs [] rich;
  twice = λ c l. let (k, o) = of_some fs c l in untrue (third (all_corners 0 fs) c) (λ e. h 29 k (third_case vertices fs k c o e));
}
  where
    rich : (k : ℕ) → k < length fs → poor (get_or fs k []) ≡ false
    rich k l = untrue (poor (get_or fs k [])) (λ e. h 28 k (poor_case vertices fs k l e))
