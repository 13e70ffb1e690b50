-- 27 to 29 as the code finds them: the faces before the first flaw, the first third use among their corners and its face, against the verdict face by face.
use Prim.Native.Nat.{ℕ, zero, suc, ◌+◌, ◌-◌, ◌≤◌, ◌<◌}
use mathlib.Core.Path.{◌≡◌, refl, ap, sym, ◌∙◌}
use mathlib.Core.List.{List, [], ◌∷◌, ◌++◌}
use mathlib.Core.Bool.{Bool, true, false, cond}
use native.Mathlib.Omega.{arith}
use native.Mathlib.Decide.{dec_lt}
use lib.ListN.{length}
use lib.Dec.{ltb, leb}
use borrow.Author.Tests.{lt-ltb, le-ltb, le-leb, lt-leb}
use Rattle.rules.specs.Lists.{some_below, count_below}
use Rattle.rules.specs.Check.{Verdict, refuse_if}
use Rattle.shapes.specs.Faces.{Corner, all_corners, corner_at, large, poor, third, faces_verdict}
use Rattle.rules.proofs.Lists.{some_below_lem, below_some, not_both}
use Rattle.shapes.proofs.Counts.{count_add, count_same}
use Rattle.shapes.proofs.Corners.{length_all, length_from, corner_to, corner_of, corner_here, corner_later, face_three}
use Rattle.std.specs.Prelude.{Some, None, is_some}
use Rattle.survey.specs.declared.Fault.{Fault}
use Rattle.survey.specs.declared.Fault.TheVariants.{Large, Poor}
use Rattle.survey.specs.declared.Survey.{Survey}
use Rattle.survey.specs.Flaws.{reason_of, fault_of, first_of, judged_of, flaws_from}
use Rattle.rules.specs.Refusals.{number_of}

-- faces without a flaw
pub data Sound (vertices : ℕ) : List (List ℕ) → Type 0 where
  sound_none : Sound vertices []
  sound_more : {f : List ℕ} {fs : List (List ℕ)} → large vertices f ≡ false → poor f ≡ false → Sound vertices fs → Sound vertices (f ∷ fs)

-- a face with a fault
pub data Flawed (vertices : ℕ) (f : List ℕ) : Fault → Type 0 where
  by27 : large vertices f ≡ true → Flawed vertices f Large
  by28 : large vertices f ≡ false → poor f ≡ true → Flawed vertices f Poor

-- where the first flaw is, of faces that begin with face k and corner c
pub data Ending (vertices k c : ℕ) (s : Survey) (passed : List (List ℕ)) : List (List ℕ) → Type 0 where
  whole : s ≡ record { flaw = None; corners = c + length (all_corners 0 passed) } → Ending vertices k c s passed []
  flawed : (f : List ℕ) (rest : List (List ℕ)) (x : Fault) → Flawed vertices f x
      → s ≡ record { flaw = Some (record { fault = x; face = k + length passed }); corners = c + length (all_corners 0 passed) }
      → Ending vertices k c s passed (f ∷ rest)

-- the faces before the first flaw and the others
pub record Cut (vertices k c : ℕ) (fs : List (List ℕ)) (s : Survey) : Type 0 where
  pub passed : List (List ℕ)
  pub rest : List (List ℕ)
  pub all : fs ≡ passed ++ rest
  pub sound : Sound vertices passed
  pub ending : Ending vertices k c s passed rest

module _ (vertices : ℕ) where
  -- after the first flaw nothing changes
  stays : (k : ℕ) (s : Survey) (fs : List (List ℕ)) → is_some s.flaw ≡ true → flaws_from vertices k s fs ≡ s
  unfolding flaws_from judged_of
  stays k s [] h = refl
  stays k s (f ∷ fs) h = rw h (stays (suc k) s fs h)

  -- a face has a fault or none
  data Kind (f : List ℕ) : Type 0 where
    bad : (x : Fault) → Flawed vertices f x → fault_of vertices f ≡ Some x → Kind f
    sound : large vertices f ≡ false → poor f ≡ false → fault_of vertices f ≡ None → Kind f

  kind : (f : List ℕ) → Kind f
  unfolding fault_of
  kind f = go (large vertices f) (poor f) refl refl
    where
      go : (a b : Bool) → large vertices f ≡ a → poor f ≡ b → Kind f
      go true b x y = bad Large (by27 x) (rw x)
      go false true x y = bad Poor (by28 x y) (rw (x, y))
      go false false x y = sound x y (rw (x, y))

  pub cut : (k c : ℕ) (fs : List (List ℕ)) → Cut vertices k c fs (flaws_from vertices k (record { flaw = None; corners = c }) fs)
  unfolding flaws_from judged_of first_of all_corners
  cut k c [] =
      record { passed = []; rest = []; all = refl; sound = sound_none; ending = whole (let z : c + 0 ≡ c = omega arith in rw z) }
  cut k c (f ∷ fs) = go (kind f) (cut (suc k) (c + length f) fs)
    where
      go : Kind f → Cut vertices (suc k) (c + length f) fs (flaws_from vertices (suc k) (record { flaw = None; corners = c + length f }) fs)
          → Cut vertices k c (f ∷ fs) (flaws_from vertices k (record { flaw = None; corners = c }) (f ∷ fs))
      go (bad x w e) r =
          let s : Survey = record { flaw = Some (record { fault = x; face = k }); corners = c } in
          let z : c + 0 ≡ c = omega arith in
          let o : k + 0 ≡ k = omega arith in
          record {
            passed = [];
            rest = f ∷ fs;
            all = refl;
            sound = sound_none;
            ending = flawed f fs x w (rw (e, stays (suc k) s fs refl, z, o));
          }
      go (sound x y e) r =
          record {
            passed = f ∷ r.passed;
            rest = r.rest;
            all = ap (λ (l : List (List ℕ)). f ∷ l) r.all;
            sound = sound_more x y r.sound;
            ending = rw e (on r.rest r.ending);
          }
        where
          total : c + length (all_corners 0 (f ∷ r.passed)) ≡ c + length f + length (all_corners 0 r.passed)
          total =
              let a = length_all 0 f r.passed in
              let b = length_from (0 + length f) r.passed in
              omega (arith, a, b)

          on : {s : Survey} (l : List (List ℕ)) → Ending vertices (suc k) (c + length f) s r.passed l → Ending vertices k c s (f ∷ r.passed) l
          on [] (whole q) = whole (q ∙ rw total)
          on (g ∷ l) (flawed f' rest x q e) =
              let z : k + suc (length r.passed) ≡ suc k + length r.passed = omega arith in
              flawed g l x q (e ∙ rw (total, z))

-- the number of the face that corner i of these faces is of
unfoldable pub face_at : ℕ → List (List ℕ) → ℕ
face_at i [] = 0
face_at i (f ∷ fs) = cond (ltb i (length f)) 0 (suc (face_at (i - length f) fs))

-- no number below n passes
quiet : (n : ℕ) (t : ℕ → Bool) → ((j : ℕ) → j < n → t j ≡ false) → some_below n t ≡ false
quiet n t g = go (some_below n t) refl
  where
    go : (b : Bool) → some_below n t ≡ b → b ≡ false
    go true q = let (j, l, p) = some_below_lem n t q in absurd (not_both (t j) p (g j l))
    go false q = refl

module _ (vertices : ℕ) (cs : List Corner) (later : Verdict) where
  -- faces without a flaw and without a third use are passed
  pub pass_faces : (k c : ℕ) (passed rest : List (List ℕ)) → Sound vertices passed
      → ((x : ℕ) → c ≤ x → x < c + length (all_corners 0 passed) → third cs x ≡ false)
      → faces_verdict vertices cs k c (passed ++ rest) later
      ≡ faces_verdict vertices cs (k + length passed) (c + length (all_corners 0 passed)) rest later
  unfolding faces_verdict refuse_if all_corners
  pass_faces k c [] rest sound_none h =
      let z : c + 0 ≡ c = omega arith in
      let w : k + 0 ≡ k = omega arith in
      rw (z, w)
  pass_faces k c (f ∷ fs) rest (sound_more x y s) h =
      let total = length_all 0 f fs in
      let same = length_from (0 + length f) fs in
      let z : c + length f + length (all_corners 0 fs) ≡ c + length (all_corners 0 (f ∷ fs)) = omega (arith, total, same) in
      let w : suc k + length fs ≡ k + suc (length fs) = omega arith in
      let r = pass_faces (suc k) (c + length f) fs rest s (λ i a b. h i (omega arith) (omega (arith, total, same))) in
      rw (x, y, quiet (length f) (λ j. third cs (c + j)) (λ j l. h (c + j) (omega arith) (omega (arith, total, same)))) (r ∙ rw (z, w))

  -- the first third use is found at its face
  pub third_face : (k c : ℕ) (passed rest : List (List ℕ)) → Sound vertices passed → (x : ℕ) → c ≤ x → x < c + length (all_corners 0 passed)
      → third cs x ≡ true → ((y : ℕ) → c ≤ y → y < x → third cs y ≡ false)
      → faces_verdict vertices cs k c (passed ++ rest) later ≡ Verdict.refused 29 (k + face_at (x - c) passed)
  unfolding faces_verdict refuse_if all_corners face_at
  third_face k c [] rest sound_none x l h e g = absurd (omega arith)
  third_face k c (f ∷ fs) rest (sound_more a b s) x l h e g =
      rw (a, b)
      (go (λ m n. third_face (suc k) (c + length f) fs rest s x m n e (λ y i j. g y (omega arith) j)) (dec_lt x (c + length f)))
    where
      go : (c + length f ≤ x → x < c + length f + length (all_corners 0 fs)
          → faces_verdict vertices cs (suc k) (c + length f) (fs ++ rest) later ≡ Verdict.refused 29 (suc k + face_at (x - (c + length f)) fs))
          → Dec (x < c + length f)
          → refuse_if (some_below (length f) (λ j. third cs (c + j))) 29 k (faces_verdict vertices cs (suc k) (c + length f) (fs ++ rest) later)
          ≡ Verdict.refused 29 (k + cond (ltb (x - c) (length f)) 0 (suc (face_at (x - c - length f) fs)))
      go rec (yes i) =
          let z : c + (x - c) ≡ x = omega arith in
          let w : k + 0 ≡ k = omega arith in
          rw (below_some (length f) (λ j. third cs (c + j)) (x - c) (omega arith) (rw z e), lt-ltb (x - c) (length f) (omega arith), w)
      go rec (no i) =
          let total = length_all 0 f fs in
          let same = length_from (0 + length f) fs in
          let z : x - (c + length f) ≡ x - c - length f = omega arith in
          let w : suc k + face_at (x - c - length f) fs ≡ k + suc (face_at (x - c - length f) fs) = omega arith in
          let r = rec (omega arith) (omega (arith, total, same)) in
          rw (quiet (length f) (λ j. third cs (c + j)) (λ j m. g (c + j) (omega arith) (omega arith)), le-ltb (x - c) (length f) (omega arith))
          (r ∙ rw (z, w))

-- a flaw is told at its face
pub flaw_face : (vertices : ℕ) (cs : List Corner) (later : Verdict) (k c : ℕ) (f : List ℕ) (rest : List (List ℕ)) (x : Fault) → Flawed vertices f x
    → faces_verdict vertices cs k c (f ∷ rest) later ≡ Verdict.refused (number_of (reason_of x)) k
unfolding faces_verdict refuse_if number_of
flaw_face vertices cs later k c f rest x (by27 a) = rw a
flaw_face vertices cs later k c f rest x (by28 a b) = rw (a, b)

-- of the corners of a face the last one alone is the last
last_none : (n k : ℕ) → k < n → count_below k (λ j. leb (n - j) 1) ≡ 0
unfolding count_below
last_none n zero h = refl
last_none n (suc k) h = rw (lt-leb (n - k) 1 (omega arith)) (omega (arith, last_none n k (omega arith)))

last_one : (n : ℕ) → 1 ≤ n → count_below n (λ j. leb (n - j) 1) ≡ 1
unfolding count_below
last_one zero h = absurd (omega arith)
last_one (suc n) h = rw (le-leb (suc n - n) 1 (omega arith)) (omega (arith, last_none (suc n) n (omega arith)))

-- as many faces end before corner x as the number of its face says
pub count_faces : (vertices c : ℕ) (fs : List (List ℕ)) → Sound vertices fs → (x : ℕ) → x < length (all_corners 0 fs)
    → count_below x (λ j. leb (corner_at (all_corners c fs) j).left 1) ≡ face_at x fs
unfolding face_at all_corners corner_of corner_to
count_faces vertices c [] sound_none x h = absurd (omega arith)
count_faces vertices c (f ∷ fs) (sound_more a b s) x h = go (count_faces vertices (c + length f) fs s (x - length f)) (dec_lt x (length f))
  where
    ends : ℕ → Bool
    ends j = leb (corner_at (all_corners c (f ∷ fs)) j).left 1

    here : (j : ℕ) → j < length f → ends j ≡ leb (length f - j) 1
    here j l = rw (corner_here c f fs j l)

    go : (x - length f < length (all_corners 0 fs)
        → count_below (x - length f) (λ j. leb (corner_at (all_corners (c + length f) fs) j).left 1) ≡ face_at (x - length f) fs)
        → Dec (x < length f) → count_below x ends ≡ cond (ltb x (length f)) 0 (suc (face_at (x - length f) fs))
    go rec (yes l) = rw (lt-ltb x (length f) l) (count_same x ends (λ j. leb (length f - j) 1) (λ j m. here j (omega arith)) ∙ last_none (length f) x l)
    go rec (no l) =
        let total = length_all 0 f fs in
        let same = length_from (0 + length f) fs in
        let z : length f + (x - length f) ≡ x = omega arith in
        let r = rec (omega (arith, total, same)) in
        let p = count_same (x - length f) (λ j. ends (length f + j)) (λ j. leb (corner_at (all_corners (c + length f) fs) j).left 1)
        (λ j m. ap (λ (k : Corner). leb k.left 1) (corner_later c f fs j)) in
        let q = count_same (length f) ends (λ j. leb (length f - j) 1) here ∙ last_one (length f) (omega (arith, face_three f b)) in
        rw (le-ltb x (length f) (omega arith))
        (ap (λ (i : ℕ). count_below i ends) (sym z)
        ∙ (count_add (length f) (x - length f) ends
        ∙ (ap (λ (i : ℕ). i + count_below (x - length f) (λ j. ends (length f + j))) q
        ∙ (ap (λ (i : ℕ). 1 + i) (p ∙ r) ∙ one_more_lem (face_at (x - length f) fs)))))
      where
        one_more_lem : (n : ℕ) → 1 + n ≡ suc n
        one_more_lem n = omega arith
