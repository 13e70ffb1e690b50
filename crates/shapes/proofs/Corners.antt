-- Laws of the list of corners that a face file makes: which face a corner is of, which corners share its face, the corners before and after it, and its two
-- vertices. Rests on Lists.
use Prim.Native.Nat.{ℕ, zero, suc, ◌+◌, ◌-◌, ◌≤◌, ◌<◌}
use mathlib.Core.Path.{◌≡◌, refl, ap, sym, ◌∙◌}
use mathlib.Core.Logic.{◌≢◌}
use mathlib.Core.Bool.{Bool, true, false, ◌||◌, cond}
use mathlib.Core.List.{List, [], ◌∷◌, ◌++◌}
use native.Mathlib.Omega.{arith}
use native.Mathlib.Decide.{ℕ_discrete, dec_lt, dec_le}
use lib.ListN.{length, get_or, take, length-append, get_or-append}
use lib.Seq.{get_or-append-add, take_all}
use lib.Dec.{eqb, ltb}
use borrow.Author.Tests.{lt-ltb, le-ltb, ltb-false, eq-eqb, ne_eqb, eqb-false}
use Rattle.shapes.specs.Faces.{Corner, corners_to, corners, all_corners, corner_at, some, poor, corner_before, corner_after}

-- corner j of the last corners vs of a face that begins with vertex v at corner c
unfoldable pub corner_to : ℕ → ℕ → List ℕ → ℕ → Corner
corner_to v c vs j = record { own = get_or vs j 0; far = cond (ltb (suc j) (length vs)) (get_or vs (suc j) 0) v; first = c; left = length vs - j }

-- corner j of a face, c the first one's number
unfoldable pub corner_of : ℕ → List ℕ → ℕ → Corner
corner_of c f j = corner_to (get_or f 0 0) c f j

-- as many corners as vertices
length_to : (v c : ℕ) (vs : List ℕ) → length (corners_to v c vs) ≡ length vs
unfolding corners_to
length_to v c [] = refl
length_to v c (a ∷ []) = refl
length_to v c (a ∷ b ∷ vs) = ap suc (length_to v c (b ∷ vs))

pub length_corners : (c : ℕ) (f : List ℕ) → length (corners c f) ≡ length f
unfolding corners
length_corners c [] = refl
length_corners c (v ∷ vs) = length_to v c (v ∷ vs)

pub length_all : (c : ℕ) (f : List ℕ) (fs : List (List ℕ)) → length (all_corners c (f ∷ fs)) ≡ length f + length (all_corners (c + length f) fs)
unfolding all_corners
length_all c f fs =
    length-append (corners c f) (all_corners (c + length f) fs) ∙ ap (λ (n : ℕ). n + length (all_corners (c + length f) fs)) (length_corners c f)

-- the number that the first corner has is no matter for how many there are
pub length_from : (c : ℕ) (fs : List (List ℕ)) → length (all_corners c fs) ≡ length (all_corners 0 fs)
unfolding all_corners
length_from c [] = refl
length_from c (f ∷ fs) =
    length_all c f fs ∙ (ap (λ (n : ℕ). length f + n) (length_from (c + length f) fs ∙ sym (length_from (0 + length f) fs)) ∙ sym (length_all 0 f fs))

-- the corner at a place of a face
to_at : (v c : ℕ) (vs : List ℕ) (j : ℕ) → j < length vs → corner_at (corners_to v c vs) j ≡ corner_to v c vs j
unfolding corners_to corner_at corner_to
to_at v c [] j h = absurd (omega arith)
to_at v c (a ∷ []) zero h = refl
to_at v c (a ∷ []) (suc j) h = absurd (omega arith)
to_at v c (a ∷ b ∷ vs) zero h =
    let e : suc (suc (length vs)) - 0 ≡ 2 + length vs = omega arith in
    rw (lt-ltb 1 (suc (suc (length vs))) (omega arith), e)
to_at v c (a ∷ b ∷ vs) (suc j) h = to_at v c (b ∷ vs) j (omega arith) ∙ go (dec_lt (suc j) (suc (length vs)))
  where
    go : Dec (suc j < suc (length vs)) → corner_to v c (b ∷ vs) j ≡ corner_to v c (a ∷ b ∷ vs) (suc j)
    go (yes l) =
        let e : suc (suc (length vs)) - suc j ≡ suc (length vs) - j = omega arith in
        rw (lt-ltb (suc j) (suc (length vs)) l, lt-ltb (suc (suc j)) (suc (suc (length vs))) (omega arith), e)
    go (no l) =
        let e : suc (suc (length vs)) - suc j ≡ suc (length vs) - j = omega arith in
        rw (le-ltb (suc j) (suc (length vs)) (omega arith), le-ltb (suc (suc j)) (suc (suc (length vs))) (omega arith), e)

pub corners_at : (c : ℕ) (f : List ℕ) (j : ℕ) → j < length f → corner_at (corners c f) j ≡ corner_of c f j
unfolding corners corner_of
corners_at c [] j h = absurd (omega arith)
corners_at c (v ∷ vs) j h = to_at v c (v ∷ vs) j h

-- corners of the first face, and of those after it
pub corner_here : (c : ℕ) (f : List ℕ) (fs : List (List ℕ)) (j : ℕ) → j < length f → corner_at (all_corners c (f ∷ fs)) j ≡ corner_of c f j
unfolding all_corners corner_at
corner_here c f fs j h =
    get_or-append (corners c f) (all_corners (c + length f) fs) _ j (omega (arith, length_corners c f)) ∙ corners_at c f j h

pub corner_later : (c : ℕ) (f : List ℕ) (fs : List (List ℕ)) (i : ℕ)
    → corner_at (all_corners c (f ∷ fs)) (length f + i) ≡ corner_at (all_corners (c + length f) fs) i
unfolding all_corners corner_at
corner_later c f fs i =
    ap (λ (n : ℕ). corner_at (corners c f ++ all_corners (c + length f) fs) (n + i)) (sym (length_corners c f))
    ∙ get_or-append-add (corners c f) (all_corners (c + length f) fs) i _

-- the first corner of face k: as many as the faces before it have
unfoldable pub start_of : List (List ℕ) → ℕ → ℕ
start_of fs k = length (all_corners 0 (take k fs))

-- corner c is one of face k
pub record Of (fs : List (List ℕ)) (k c : ℕ) : Type 0 where
  pub from : start_of fs k ≤ c
  pub up_to : c < start_of fs (suc k)

-- where each face starts
pub start_zero : (fs : List (List ℕ)) → start_of fs 0 ≡ 0
unfolding start_of all_corners
start_zero fs = refl

start_suc : (f : List ℕ) (fs : List (List ℕ)) (k : ℕ) → start_of (f ∷ fs) (suc k) ≡ length f + start_of fs k
unfolding start_of
start_suc f fs k = length_all 0 f (take k fs) ∙ ap (λ (n : ℕ). length f + n) (length_from (0 + length f) (take k fs))

-- after the corners of the face before
pub start_next : (fs : List (List ℕ)) (k : ℕ) → k < length fs → start_of fs (suc k) ≡ start_of fs k + length (get_or fs k [])
start_next [] k h = absurd (omega arith)
start_next (f ∷ fs) zero h = omega (arith, start_suc f fs 0, start_zero fs, start_zero (f ∷ fs))
start_next (f ∷ fs) (suc k) h = omega (arith, start_suc f fs k, start_suc f fs (suc k), start_next fs k (omega arith))

-- within all corners
pub start_within : (fs : List (List ℕ)) (k : ℕ) → start_of fs k ≤ length (all_corners 0 fs)
unfolding start_of
start_within fs zero = omega (arith, start_zero fs)
start_within [] (suc k) = omega arith
start_within (f ∷ fs) (suc k) = omega (arith, start_suc f fs k, start_within fs k, length_all 0 f fs, length_from (0 + length f) fs)

-- a corner's face is one of the file
pub of_known : (fs : List (List ℕ)) (k c : ℕ) → Of fs k c → k < length fs
unfolding start_of
of_known fs k c o = go (dec_lt k (length fs))
  where
    go : Dec (k < length fs) → k < length fs
    go (yes l) = l
    go (no l) =
        let a : start_of fs k ≡ length (all_corners 0 fs) = rw (take_all k fs (omega arith)) in
        let b : start_of fs (suc k) ≡ length (all_corners 0 fs) = rw (take_all (suc k) fs (omega arith)) in
        absurd (omega (arith, o.from, o.up_to))

-- each corner is one of a face
pub of_some : (fs : List (List ℕ)) (c : ℕ) → c < length (all_corners 0 fs) → (k : ℕ) × Of fs k c
unfolding all_corners
of_some [] c h = absurd (omega arith)
of_some (f ∷ fs) c h = go (dec_lt c (length f)) (λ l. of_some fs (c - length f) l)
  where
    go : Dec (c < length f) → (c - length f < length (all_corners 0 fs) → (k : ℕ) × Of fs k (c - length f)) → (k : ℕ) × Of (f ∷ fs) k c
    go (yes l) rec = (0, record { from = omega (arith, start_zero (f ∷ fs)); up_to = omega (arith, start_suc f fs 0) })
    go (no l) rec =
        let (k, o) = rec (omega (arith, length_all 0 f fs, length_from (0 + length f) fs)) in
        (suc k, record { from = omega (arith, start_suc f fs k, o.from); up_to = omega (arith, start_suc f fs (suc k), o.up_to) })

-- corner j of face k, among all
corner_from : (b : ℕ) (fs : List (List ℕ)) (k j : ℕ) → k < length fs → j < length (get_or fs k [])
    → corner_at (all_corners b fs) (start_of fs k + j) ≡ corner_of (b + start_of fs k) (get_or fs k []) j
corner_from b [] k j h l = absurd (omega arith)
corner_from b (f ∷ fs) zero j h l =
    let x : 0 + j ≡ j = omega arith in
    let y : b + 0 ≡ b = omega arith in
    rw (start_zero (f ∷ fs), x, y) (corner_here b f fs j l)
corner_from b (f ∷ fs) (suc k) j h l =
    let x : length f + start_of fs k + j ≡ length f + (start_of fs k + j) = omega arith in
    let y : b + (length f + start_of fs k) ≡ b + length f + start_of fs k = omega arith in
    rw (start_suc f fs k, x, y) (corner_later b f fs (start_of fs k + j) ∙ corner_from (b + length f) fs k j (omega arith) l)

corner_of_lem : (fs : List (List ℕ)) (k j : ℕ) → k < length fs → j < length (get_or fs k [])
    → corner_at (all_corners 0 fs) (start_of fs k + j) ≡ corner_of (start_of fs k) (get_or fs k []) j
corner_of_lem fs k j h l = let x : 0 + start_of fs k ≡ start_of fs k = omega arith in rw x at (corner_from 0 fs k j h l)

-- what the place of a corner in a list tells: its face's corners are those from its first one on, and all of them agree on where the face begins and ends
pub record Frame (cs : List Corner) (c : ℕ) : Type 0 where
  pub first_le : (corner_at cs c).first ≤ c
  pub left_some : 1 ≤ (corner_at cs c).left
  pub within : c + (corner_at cs c).left ≤ length cs
  pub same_first : (j : ℕ) → (corner_at cs c).first ≤ j → j < c + (corner_at cs c).left → (corner_at cs j).first ≡ (corner_at cs c).first
  pub same_end : (j : ℕ) → (corner_at cs c).first ≤ j → j < c + (corner_at cs c).left → j + (corner_at cs j).left ≡ c + (corner_at cs c).left

-- each corner has its frame
abbrev pub Framed : List Corner → Type 0
Framed cs = (c : ℕ) → c < length cs → Frame cs c

-- what a corner of face k says: where the face begins and ends
module _ (fs : List (List ℕ)) (k c : ℕ) (o : Of fs k c) where
  spot : corner_at (all_corners 0 fs) c ≡ corner_of (start_of fs k) (get_or fs k []) (c - start_of fs k)
  spot =
      let h = of_known fs k c o in
      let z : start_of fs k + (c - start_of fs k) ≡ c = omega (arith, o.from) in
      rw z at (corner_of_lem fs k (c - start_of fs k) h (omega (arith, o.from, o.up_to, start_next fs k h)))

  pub of_first : (corner_at (all_corners 0 fs) c).first ≡ start_of fs k
  unfolding corner_of corner_to
  of_first = ap (λ (x : Corner). x.first) spot

  pub of_end : c + (corner_at (all_corners 0 fs) c).left ≡ start_of fs (suc k)
  unfolding corner_of corner_to
  of_end = let e = ap (λ (x : Corner). x.left) spot in omega (arith, o.from, o.up_to, start_next fs k (of_known fs k c o))

  -- its own vertex
  pub own_at : (corner_at (all_corners 0 fs) c).own ≡ get_or (get_or fs k []) (c - start_of fs k) 0
  unfolding corner_of corner_to
  own_at = ap (λ (x : Corner). x.own) spot

  -- the far vertex: that of the next corner of the face, or of its first
  pub far_at : suc c < start_of fs (suc k) → (corner_at (all_corners 0 fs) c).far ≡ get_or (get_or fs k []) (suc c - start_of fs k) 0
  unfolding corner_of corner_to
  far_at l =
      let e : suc c - start_of fs k ≡ suc (c - start_of fs k) = omega (arith, o.from) in
      let m : suc (c - start_of fs k) < length (get_or fs k []) = omega (arith, o.from, start_next fs k (of_known fs k c o)) in
      ap (λ (x : Corner). x.far) spot ∙ rw (lt-ltb (suc (c - start_of fs k)) (length (get_or fs k [])) m, e)

  pub far_last : suc c ≡ start_of fs (suc k) → (corner_at (all_corners 0 fs) c).far ≡ get_or (get_or fs k []) 0 0
  unfolding corner_of corner_to
  far_last l =
      let m : length (get_or fs k []) ≤ suc (c - start_of fs k) = omega (arith, o.from, start_next fs k (of_known fs k c o)) in
      ap (λ (x : Corner). x.far) spot ∙ rw (le-ltb (suc (c - start_of fs k)) (length (get_or fs k [])) m)

pub framed : (fs : List (List ℕ)) → Framed (all_corners 0 fs)
framed fs c h =
    let (k, o) = of_some fs c h in
    let a = of_first fs k c o in
    let e = of_end fs k c o in
    record {
      first_le = omega (arith, a, o.from);
      left_some = omega (arith, e, o.up_to);
      within = omega (arith, e, start_within fs (suc k));
      same_first = λ j hj lj. of_first fs k j (record { from = omega (arith, a); up_to = omega (arith, e) }) ∙ sym a;
      same_end = λ j hj lj. of_end fs k j (record { from = omega (arith, a); up_to = omega (arith, e) }) ∙ sym e;
    }

-- the corners around a corner, in any list
module _ (cs : List Corner) where
  -- the corner after: the face's first after its last, the next one after any other
  pub after_last : (c : ℕ) → (corner_at cs c).left ≡ 1 → corner_after cs c ≡ (corner_at cs c).first
  unfolding corner_after
  after_last c e = rw (eq-eqb (corner_at cs c).left 1 e)

  pub after_other : (c : ℕ) → (corner_at cs c).left ≢ 1 → corner_after cs c ≡ c + 1
  unfolding corner_after
  after_other c e = rw (ne_eqb (corner_at cs c).left 1 e)

  -- the corner before: the face's last before its first
  pub before_first : (c : ℕ) → c ≡ (corner_at cs c).first → corner_before cs c ≡ c + (corner_at cs c).left - 1
  unfolding corner_before
  before_first c e = ap (λ (b : Bool). cond b (c + (corner_at cs c).left - 1) (c - 1)) (eq-eqb c (corner_at cs c).first e)

  pub before_other : (c : ℕ) → c ≢ (corner_at cs c).first → corner_before cs c ≡ c - 1
  unfolding corner_before
  before_other c e = ap (λ (b : Bool). cond b (c + (corner_at cs c).left - 1) (c - 1)) (ne_eqb c (corner_at cs c).first e)

-- corners one after another, in any list with frames
module _ (cs : List Corner) (F : Framed cs) where
  -- the corner after a face's last one is the first of the next face
  pub next_face : (c : ℕ) → c + 1 < length cs → (corner_at cs c).left ≡ 1 → (corner_at cs (c + 1)).first ≡ c + 1
  next_face c h e = go (dec_le (corner_at cs (c + 1)).first c)
    where
      go : Dec ((corner_at cs (c + 1)).first ≤ c) → (corner_at cs (c + 1)).first ≡ c + 1
      go (yes l) = let r = F (c + 1) h in absurd (omega (arith, r.left_some, r.same_end c l (omega (arith, r.left_some))))
      go (no l) = omega (arith, (F (c + 1) h).first_le)

  -- the one after any other is of the same face
  pub next_first_lem : (c : ℕ) → c < length cs → (corner_at cs c).left ≢ 1 → (corner_at cs (c + 1)).first ≡ (corner_at cs c).first
  next_first_lem c h e = let r = F c h in r.same_first (c + 1) (omega (arith, r.first_le)) (omega (arith, r.left_some))

  pub next_below : (c : ℕ) → c < length cs → (corner_at cs c).left ≢ 1 → c + 1 < length cs
  next_below c h e = let r = F c h in omega (arith, r.within, r.left_some)

  -- the first corner is its face's first
  pub first_zero : 0 < length cs → (corner_at cs 0).first ≡ 0
  first_zero h = omega (arith, (F 0 h).first_le)

  -- and so is each face's first corner
  pub first_first : (c : ℕ) → c < length cs → (corner_at cs (corner_at cs c).first).first ≡ (corner_at cs c).first
  first_first c h = let r = F c h in r.same_first (corner_at cs c).first (omega arith) (omega (arith, r.first_le, r.left_some))

  pub first_end : (c : ℕ) → c < length cs → (corner_at cs c).first + (corner_at cs (corner_at cs c).first).left ≡ c + (corner_at cs c).left
  first_end c h = let r = F c h in r.same_end (corner_at cs c).first (omega arith) (omega (arith, r.first_le, r.left_some))

  -- both are corners
  pub after_below : (c : ℕ) → c < length cs → corner_after cs c < length cs
  after_below c h = go (ℕ_discrete (corner_at cs c).left 1)
    where
      go : Dec ((corner_at cs c).left ≡ 1) → corner_after cs c < length cs
      go (yes e) = omega (arith, after_last cs c e, (F c h).first_le)
      go (no e) = omega (arith, after_other cs c e, next_below c h e)

  pub before_below : (c : ℕ) → c < length cs → corner_before cs c < length cs
  before_below c h = go (ℕ_discrete c (corner_at cs c).first)
    where
      go : Dec (c ≡ (corner_at cs c).first) → corner_before cs c < length cs
      go (yes e) = omega (arith, before_first cs c e, (F c h).left_some, (F c h).within)
      go (no e) = omega (arith, before_other cs c e)

  -- inverse to each other
  pub before_after : (c : ℕ) → c < length cs → corner_before cs (corner_after cs c) ≡ c
  before_after c h = go (ℕ_discrete (corner_at cs c).left 1)
    where
      go : Dec ((corner_at cs c).left ≡ 1) → corner_before cs (corner_after cs c) ≡ c
      go (yes e) =
          ap (corner_before cs) (after_last cs c e)
          ∙ (before_first cs (corner_at cs c).first (sym (first_first c h)) ∙ omega (arith, first_end c h))
      go (no e) =
          ap (corner_before cs) (after_other cs c e)
          ∙ (before_other cs (c + 1) (λ q. omega (arith, q, next_first_lem c h e, (F c h).first_le)) ∙ omega arith)

  pub after_before : (c : ℕ) → c < length cs → corner_after cs (corner_before cs c) ≡ c
  after_before c h = go (ℕ_discrete c (corner_at cs c).first)
    where
      go : Dec (c ≡ (corner_at cs c).first) → corner_after cs (corner_before cs c) ≡ c
      go (yes e) =
          let r = F c h in
          let j = c + (corner_at cs c).left - 1 in
          let a : (corner_at cs j).left ≡ 1 = omega (arith, r.left_some, r.same_end j (omega (arith, r.left_some)) (omega (arith, r.left_some))) in
          let b : (corner_at cs j).first ≡ (corner_at cs c).first = r.same_first j (omega (arith, r.left_some)) (omega (arith, r.left_some)) in
          ap (corner_after cs) (before_first cs c e) ∙ (after_last cs j a ∙ (b ∙ sym e))
      go (no e) =
          let r = F c h in
          let a : c - 1 + (corner_at cs (c - 1)).left ≡ c + (corner_at cs c).left
          = r.same_end (c - 1) (omega (arith, r.first_le)) (omega (arith, r.left_some)) in
          ap (corner_after cs) (before_other cs c e)
          ∙ (after_other cs (c - 1) (λ q. omega (arith, q, a, r.left_some, r.first_le)) ∙ omega (arith, r.first_le))

-- a side leads to the next corner of the face
pub far_next : (fs : List (List ℕ)) (c : ℕ) → c < length (all_corners 0 fs)
    → (corner_at (all_corners 0 fs) c).far ≡ (corner_at (all_corners 0 fs) (corner_after (all_corners 0 fs) c)).own
far_next fs c h = go (ℕ_discrete (corner_at cs c).left 1)
  where
    cs : List Corner
    cs = all_corners 0 fs

    k : ℕ
    k = (of_some fs c h).0

    o : Of fs k c
    o = (of_some fs c h).1

    go : Dec ((corner_at cs c).left ≡ 1) → (corner_at cs c).far ≡ (corner_at cs (corner_after cs c)).own
    go (yes q) =
        let s : corner_after cs c ≡ start_of fs k = after_last cs c q ∙ of_first fs k c o in
        let z : start_of fs k - start_of fs k ≡ 0 = omega arith in
        far_last fs k c o (omega (arith, of_end fs k c o, q))
        ∙ sym (ap (λ (x : ℕ). (corner_at cs x).own) s
        ∙ (own_at fs k (start_of fs k) (record { from = omega arith; up_to = omega (arith, o.from, o.up_to) }) ∙ rw z))
    go (no q) =
        let s : corner_after cs c ≡ suc c = after_other cs c q ∙ omega arith in
        let l : suc c < start_of fs (suc k) = omega (arith, of_end fs k c o, q, o.up_to) in
        far_at fs k c o l ∙ sym (ap (λ (x : ℕ). (corner_at cs x).own) s ∙ own_at fs k (suc c) (record { from = omega (arith, o.from); up_to = l }))

-- a test that no entry of a list passes
pub or_none : (a b : Bool) → (a || b) ≡ false → (a ≡ false) × (b ≡ false)
or_none true b e = let z : ◌≡◌ {A = ℕ} 0 1 = cc in absurd (omega arith)
or_none false b e = (refl, e)

pub some_none : {A : Type 0} (f : A → Bool) (xs : List A) → some f xs ≡ false → (i : ℕ) (x : A) → i < length xs → f (get_or xs i x) ≡ false
unfolding some
some_none f [] e i x h = absurd (omega arith)
some_none f (y ∷ xs) e zero x h = (or_none (f y) (some f xs) e).0
some_none f (y ∷ xs) e (suc i) x h = some_none f xs (or_none (f y) (some f xs) e).1 i x (omega arith)

pub none_some : {A : Type 0} (f : A → Bool) (xs : List A) (x : A) → ((i : ℕ) → i < length xs → f (get_or xs i x) ≡ false) → some f xs ≡ false
unfolding some
none_some f [] x h = refl
none_some f (y ∷ xs) x h = rw (h 0 (omega arith), none_some f xs x (λ i l. h (suc i) (omega arith)))

-- a face that is not poor has three corners at least, and no two equal neighbours
pub face_three : (f : List ℕ) → poor f ≡ false → 3 ≤ length f
unfolding poor
face_three f e = ltb-false (length f) 3 (or_none (ltb (length f) 3) _ e).0

pub face_apart : (f : List ℕ) → poor f ≡ false → (c j : ℕ) → j < length f → (corner_of c f j).own ≢ (corner_of c f j).far
unfolding poor corner_at corner_of corner_to
face_apart f e c j h =
    let k : Corner = record { own = 0; far = 0; first = 0; left = 0 } in
    let q = some_none (λ (k : Corner). eqb k.own k.far) (corners 0 f) (or_none (ltb (length f) 3) _ e).1 j k (omega (arith, length_corners 0 f)) in
    eqb-false (corner_of c f j).own (corner_of c f j).far (rw (corners_at 0 f j h) at q)

-- where no face is poor
module _ (fs : List (List ℕ)) (e : some poor fs ≡ false) where
  -- each corner's two vertices are not equal
  pub own_far : (c : ℕ) → c < length (all_corners 0 fs) → (corner_at (all_corners 0 fs) c).own ≢ (corner_at (all_corners 0 fs) c).far
  own_far c h =
      let (k, o) = of_some fs c h in
      let l = of_known fs k c o in
      rw (spot fs k c o)
      (face_apart (get_or fs k []) (some_none poor fs e k [] l) (start_of fs k) (c - start_of fs k) (omega (arith, o.from, o.up_to, start_next fs k l)))
