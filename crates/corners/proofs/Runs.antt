-- The steps from a text's first face on give the corners of its faces, in order.
use Prim.Native.Nat.{ℕ, zero, suc, ◌+◌, ◌-◌, ◌<◌}
use mathlib.Core.Path.{◌≡◌, refl, ap, sym, ◌∙◌}
use mathlib.Core.List.{List, [], ◌∷◌, ◌++◌, map, map-append}
use native.Mathlib.Omega.{arith}
use lib.ListN.{length, get_or, length-append}
use lib.Dec.{leb}
use borrow.Author.Tests.{ne_eqb, lt-leb}
use Rattle.shapes.specs.Text.{line_end, good, number, several, face}
use Rattle.text.specs.Leaves.{known_of}
use Rattle.text.proofs.Readings.{next_good, several_split, several_length}
use Rattle.shapes.specs.Faces.{Corner, corners_to, corners, all_corners}
use Rattle.corners.specs.Steps.{Spot, Turn, known, begun, opened_by, opened_of, step_by, step_of, position_after, step_at}

-- what a step tells of a corner
pub record Use : Type 0 where
  pub own : ℕ
  pub far : ℕ
  pub left : ℕ

abbrev pub bare : Corner → Use
bare k = record { own = k.own; far = k.far; left = k.left }

abbrev pub use_of : Turn → Use
use_of s = record { own = s.own; far = s.far; left = s.left }

-- no face is empty
pub data Full : List (List ℕ) → Type 0 where
  none : Full []
  more : {v : ℕ} {vs : List ℕ} {fs : List (List ℕ)} → Full fs → Full ((v ∷ vs) ∷ fs)

length_to : (v c o : ℕ) (vs : List ℕ) → length (corners_to v c (o ∷ vs)) ≡ suc (length vs)
unfolding corners_to
length_to v c o [] = refl
length_to v c o (w ∷ vs) = ap suc (length_to v c w vs)

module _ (t : List ℕ) where
  known_is : (p v e : ℕ) → number t p ≡ good v e → known t p ≡ record { value = v; after = e }
  unfolding known_of
  known_is p v e q = rw q

  -- a corner of an open face
  open_step : (e k f o : ℕ)
      → step_of t (record { at = e; left = suc k; first = f; own = o }) ≡ step_by (leb (suc k) 1) t (record { at = e; left = suc k; first = f; own = o })
  unfolding step_of opened_of opened_by
  open_step e k f o = rw (ne_eqb (suc k) 0 (omega arith))

  last_step : (e f o : ℕ)
      → step_of t (record { at = e; left = 1; first = f; own = o }) ≡ record { own = o; far = f; left = 1; next = begun (line_end t e) }
  unfolding step_by
  last_step e f o = open_step e 0 f o

  more_step : (e k f o v a : ℕ) → number t e ≡ good v a → step_of t (record { at = e; left = suc (suc k); first = f; own = o })
      ≡ record { own = o; far = v; left = suc (suc k); next = record { at = a; left = suc k; first = f; own = v } }
  unfolding step_by
  more_step e k f o v a q =
      let z : suc (suc k) - 1 ≡ suc k = omega arith in
      open_step e (suc k) f o ∙ rw (lt-leb (suc (suc k)) 1 (omega arith), known_is e v a q, z)

  -- the steps of k corners from c on tell this, and lead to d
  pub data Run : ℕ → Spot → List Use → Spot → Type 0 where
    stay : {c : Spot} → Run zero c [] c
    turn : {k : ℕ} {c : Spot} {us : List Use} {d : Spot} (s : Turn) → step_of t c ≡ s → Run k s.next us d → Run (suc k) c (use_of s ∷ us) d

  run_join : (a b : ℕ) {c d f : Spot} {us ws : List Use} → Run a c us d → Run b d ws f → Run (a + b) c (us ++ ws) f
  run_join zero b stay q = let z : 0 + b ≡ b = omega arith in rw z q
  run_join (suc a) b (turn s e r) q = let z : suc a + b ≡ suc (a + b) = omega arith in rw z (turn s e (run_join a b r q))

  -- what a run tells of each corner
  pub run_at : {n : ℕ} {c d : Spot} {us : List Use} → Run n c us d → (j : ℕ) → j < n
      → get_or us j (record { own = 0; far = 0; left = 0 }) ≡ use_of (step_at t c j)
  unfolding step_at position_after
  run_at stay j h = absurd (omega arith)
  run_at (turn s e r) zero h = rw e
  run_at (turn s e r) (suc j) h = rw e (run_at r j (omega arith))

  -- the rest of a face
  face_rest : (k e f c o : ℕ) (vs : List ℕ) (q : ℕ) → several (number t) k e ≡ good vs q
      → Run (suc k) (record { at = e; left = suc k; first = f; own = o }) (map bare (corners_to f c (o ∷ vs))) (begun (line_end t q))
  unfolding corners_to several
  face_rest zero e f c o vs q r =
      let a : vs ≡ [] = cc in
      let b : q ≡ e = cc in
      rw (a, b) (turn (record { own = o; far = f; left = 1; next = begun (line_end t e) }) (last_step e f o) stay)
  face_rest (suc k) e f c o vs q r =
      let s = several_split (number t) k e vs q r in
      let m = face_rest k s.after f c s.head s.rest q s.others in
      let z = more_step e k f o s.head s.after s.one in
      let l : 2 + length s.rest ≡ suc (suc k) = rw (several_length (number t) k s.after s.rest q s.others) (omega arith) in
      rw (s.all, l)
      (turn (record { own = o; far = s.head; left = suc (suc k); next = record { at = s.after; left = suc k; first = f; own = s.head } }) z m)

  -- a face from its beginning: the first step opens it
  opened_first : (p k e v a : ℕ) → number t p ≡ good (suc k) e → number t e ≡ good v a
      → opened_of t (begun p) ≡ record { at = a; left = suc k; first = v; own = v }
  unfolding opened_of opened_by begun
  opened_first p k e v a x y = rw (known_is p (suc k) e x, known_is e v a y)

  open_first : (p k e v a : ℕ) → number t p ≡ good (suc k) e → number t e ≡ good v a
      → step_of t (begun p) ≡ step_of t (record { at = a; left = suc k; first = v; own = v })
  unfolding step_of opened_of opened_by
  open_first p k e v a x y = rw (opened_first p k e v a x y, shut)
    where
      shut : opened_of t (record { at = a; left = suc k; first = v; own = v }) ≡ record { at = a; left = suc k; first = v; own = v }
      shut = rw (ne_eqb (suc k) 0 (omega arith))

  run_first : {n : ℕ} {c d e : Spot} {us : List Use} → step_of t c ≡ step_of t d → Run (suc n) d us e → Run (suc n) c us e
  run_first q (turn s e r) = turn s (q ∙ e) r

  -- what a face is read of
  pub record Parts (p : ℕ) (vs : List ℕ) (a : ℕ) : Type 0 where
    pub count : ℕ
    pub begin : ℕ
    pub end : ℕ
    pub one : number t p ≡ good count begin
    pub two : several (number t) count begin ≡ good vs end
    pub line : a ≡ line_end t end

  face_parts : (p : ℕ) (vs : List ℕ) (a : ℕ) → face t p ≡ good vs a → Parts p vs a
  unfolding face
  face_parts p vs a e =
      let n = next_good (number t p) _ vs a e in
      let m = next_good (several (number t) n.what n.after) _ vs a n.two in
      record {
        count = n.what;
        begin = n.after;
        end = m.after;
        one = n.one;
        two = m.one ∙ ap (λ (x : List ℕ). good x m.after) (what m.what vs (line_end t m.after) a m.two);
        line = sym (ends m.what vs (line_end t m.after) a m.two);
      }
    where
      ends : (x y : List ℕ) (i j : ℕ) → good x i ≡ good y j → i ≡ j
      ends x y i j e = cc

      what : (x y : List ℕ) (i j : ℕ) → good x i ≡ good y j → x ≡ y
      what x y i j e = cc

  -- the corners of a face of one corner at least
  face_run : (p c v : ℕ) (vs : List ℕ) (a : ℕ) → face t p ≡ good (v ∷ vs) a
      → Run (suc (length vs)) (begun p) (map bare (corners c (v ∷ vs))) (begun a)
  unfolding corners several
  face_run p c v vs a e = go (face_parts p (v ∷ vs) a e)
    where
      on : (k b q : ℕ) → number t p ≡ good k b → several (number t) k b ≡ good (v ∷ vs) q → a ≡ line_end t q
          → Run (suc (length vs)) (begun p) (map bare (corners_to v c (v ∷ vs))) (begun a)
      on zero b q x y z = let w : ◌≡◌ {A = List ℕ} [] (v ∷ vs) = cc in let u : ◌≡◌ {A = ℕ} 0 1 = cc in absurd (omega arith)
      on (suc k) b q x y z =
          let s = several_split (number t) k b (v ∷ vs) q y in
          let ev : s.head ≡ v = let w = s.all in cc in
          let er : s.rest ≡ vs = let w = s.all in cc in
          let l : length vs ≡ k = rw er at (several_length (number t) k s.after s.rest q s.others) in
          let r = rw er at (face_rest k s.after v c v s.rest q s.others) in
          rw (l, z) (run_first (open_first p k b v s.after x (rw ev at s.one)) r)

      go : Parts p (v ∷ vs) a → Run (suc (length vs)) (begun p) (map bare (corners_to v c (v ∷ vs))) (begun a)
      go m = on m.count m.begin m.end m.one m.two m.line

  -- the steps tell of the corners of all faces, up to any
  pub faces_run : (fs gs : List (List ℕ)) → Full fs → (c k p x : ℕ) → several (face t) k p ≡ good (fs ++ gs) x
      → (q : ℕ) × Run (length (all_corners c fs)) (begun p) (map bare (all_corners c fs)) (begun q)
  unfolding all_corners several corners
  faces_run [] gs none c k p x e = (p, stay)
  faces_run ([] ∷ fs) gs x7 c k p x e = elim x7 [ ]
  faces_run ((v ∷ vs) ∷ fs) gs (more f) c zero p x e = let u : ◌≡◌ {A = ℕ} 0 1 = cc in absurd (omega arith)
  faces_run ((v ∷ vs) ∷ fs) gs (more f) c (suc k) p x e =
      let s = several_split (face t) k p ((v ∷ vs) ∷ (fs ++ gs)) x e in
      let eh : s.head ≡ v ∷ vs = let w = s.all in cc in
      let er : s.rest ≡ fs ++ gs = let w = s.all in cc in
      let d = c + length (v ∷ vs) in
      let a = face_run p c v vs s.after (rw eh at s.one) in
      let (q, b) = faces_run fs gs f d k s.after x (rw er at s.others) in
      let l : length (corners_to v c (v ∷ vs) ++ all_corners d fs) ≡ suc (length vs) + length (all_corners d fs)
      = length-append (corners_to v c (v ∷ vs)) (all_corners d fs) ∙ ap (λ (n : ℕ). n + length (all_corners d fs)) (length_to v c v vs) in
      (q, rw (l, map-append bare (corners_to v c (v ∷ vs)) (all_corners d fs)) (run_join (suc (length vs)) (length (all_corners d fs)) a b))
