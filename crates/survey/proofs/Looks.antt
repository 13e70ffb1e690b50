-- Laws of the pass: the corners of a face and the faces of a text, read one after another.
use Prim.Native.Nat.{ℕ, suc, ◌+◌, ◌*◌, ◌-◌, ◌≤◌, ◌<◌}
use mathlib.Core.Path.{◌≡◌, refl, ap, sym, ◌∙◌}
use mathlib.Core.Logic.{◌≢◌}
use mathlib.Core.List.{List, [], ◌∷◌}
use native.Mathlib.Omega.{arith}
use lib.ListN.{length}
use lib.Dec.{ltb}
use Rattle.shapes.specs.Text.{line_end, Read, bad, good, next, number, several, face}
use Rattle.shapes.specs.Faces.{corners_to}
use Rattle.text.proofs.Readings.{told_err, face_count_lem, face_corner, face_good, several_length}
use Rattle.std.specs.Prelude.{Option, Some, None, Ok}
use Rattle.std.specs.Bool.{then_some}
use Rattle.text.specs.declared.place.Place.{Place}
use Rattle.text.specs.declared.Known.{Known}
use Rattle.text.specs.Leaves.{of, told_of}
use Rattle.survey.specs.declared.Fault.{Fault}
use Rattle.survey.specs.declared.Fault.TheVariants.{Poor}
use Rattle.survey.specs.declared.Face.{Face}
use Rattle.survey.specs.declared.Survey.{Survey}
use Rattle.survey.specs.Flaws.{fault_of, worse_of, worst, read_as, look, sight, flawless, judged_of, flaws_from, surveyed}
use Rattle.survey.proofs.Laws.{judged_corners, fault_none, fault_some}

-- what a reading that is told so is
as_err : {A B : Type 0} (f : A → B) (x : Read A) (w : ℕ) → bad w ≡ read_as f x → x ≡ bad w
unfolding read_as
as_err f (bad u) w q = cc
as_err f (good a p) w q = let z : ◌≡◌ {A = ℕ} 0 1 = cc in absurd (omega arith)

pub record As {A B : Type 0} (f : A → B) (x : Read A) (b : B) (q : ℕ) : Type 0 where
  pub what : A
  pub is : x ≡ good what q
  pub says : b ≡ f what

as_ok : {A B : Type 0} (f : A → B) (x : Read A) (b : B) (q : ℕ) → good b q ≡ read_as f x → As f x b q
unfolding read_as
as_ok f (bad w) b q e = let z : ◌≡◌ {A = ℕ} 0 1 = cc in absurd (omega arith)
as_ok f (good a p) b q e = let z : q ≡ p = cc in record { what = a; is = rw z; says = cc }

-- several readings by their first
module _ {A : Type 0} (read : ℕ → Read A) where
  several_first : (n p w : ℕ) → read p ≡ bad w → several read (suc n) p ≡ bad w
  unfolding several next
  several_first n p w e = rw e

  several_bad : (n p : ℕ) (x : A) (e w : ℕ) → read p ≡ good x e → several read n e ≡ bad w → several read (suc n) p ≡ bad w
  unfolding several next
  several_bad n p x e w a b = rw (a, b)

  several_good : (n p : ℕ) (x : A) (e : ℕ) (xs : List A) (q : ℕ) → read p ≡ good x e → several read n e ≡ good xs q → several read (suc n) p ≡ good (x ∷ xs) q
  unfolding several next
  several_good n p x e xs q a b = rw (a, b)

-- the corners of a face up to p are read: own is the last of them, x what they say
pub record Looking (s : Place) (count n f : ℕ) (x₀ x : Option Fault) (own : ℕ) (p : Place) (k : ℕ) : Type 0 where
  pub up_to : k ≤ count
  pub text : p.text ≡ s.text
  pub left : read_as (look n f x₀ f) (several (number s.text.now) count s.at) ≡ read_as (look n f x own) (several (number s.text.now) (count - k) p.at)

module _ {s : Place} {count n f : ℕ} {x₀ x : Option Fault} {own : ℕ} {p : Place} {k : ℕ} (l : Looking s count n f x₀ x own p k) where
  module _ (h : k < count) where
    pub looking_bad : (w : ℕ) → bad w ≡ of number p → bad w ≡ read_as (look n f x₀ f) (several (number s.text.now) count s.at)
    unfolding several next read_as
    looking_bad w e =
        let z : count - k ≡ suc (count - (k + 1)) = omega arith in
        sym (l.left ∙ rw (z, several, sym (rw l.text at e)))

    pub looking_next : (v : Known ℕ) (y : Option Fault) → v.after.text ≡ p.text → good v.value v.after.at ≡ of number p → y ≡ worse_of x n own v.value
        → Looking s count n f x₀ y v.value v.after (k + 1)
    unfolding several next read_as look worst corners_to
    looking_next v y t q r =
        let z : count - k ≡ suc (count - (k + 1)) = omega arith in
        record {
          up_to = omega arith;
          text = t ∙ l.text;
          left = l.left ∙ rw (z, several, sym (rw l.text at q), r) (onto (several (number s.text.now) (count - (k + 1)) v.after.at));
        }
      where
        onto : (r : Read (List ℕ)) → read_as (look n f x own) (next r (λ vs q. good (v.value ∷ vs) q)) ≡ read_as (look n f (worse_of x n own v.value) v.value) r
        onto (bad w) = refl
        onto (good vs q) = refl

  pub looking_end : count ≤ k → (y : Option Fault) → y ≡ worse_of x n own f
      → good y p.at ≡ read_as (look n f x₀ f) (several (number s.text.now) count s.at)
  unfolding several read_as look worst corners_to
  looking_end h y r = let z : count - k ≡ 0 = omega arith in sym (l.left ∙ rw (z, r))

-- equal faces seen
same_sight : {x y : Option Fault} {c d a b : ℕ} → x ≡ y → c ≡ d → a ≡ b
    → ◌≡◌ {A = Read Face} (good (record { fault = x; corners = c }) a) (good (record { fault = y; corners = d }) b)
same_sight p q r = rw (p, q, r)

-- the face at a place: 26 in its count
pub sight_bad : (s : Place) (n w : ℕ) → bad w ≡ of number s → bad w ≡ read_as (sight n) (of face s)
unfolding read_as
sight_bad s n w e = sym (ap (read_as (sight n)) (face_count_lem s.text.now s.at w (sym e)))

-- its count is c
module _ (s : Place) (n : ℕ) (c : Known ℕ) (ct : c.after.text ≡ s.text) (ec : good c.value c.after.at ≡ of number s) where
  pub sight_none : c.value ≡ 0 → (a : ℕ) → a ≡ line_end s.text.now c.after.at
      → good (record { fault = Some Poor; corners = c.value }) a ≡ read_as (sight n) (of face s)
  unfolding read_as several
  sight_none z a ea =
      same_sight (fault_none n) z ea
      ∙ sym (ap (read_as (sight n)) (face_good s.text.now s.at 0 c.after.at c.after.at [] (sym ec ∙ ap (λ (y : ℕ). good y c.after.at) z) refl))

  module _ (h : c.value ≢ 0) where
    some : number s.text.now s.at ≡ good (suc (c.value - 1)) c.after.at
    some = let z : c.value ≡ suc (c.value - 1) = omega arith in sym ec ∙ ap (λ (y : ℕ). good y c.after.at) z

    pub sight_first : (w : ℕ) → bad w ≡ of number c.after → bad w ≡ read_as (sight n) (of face s)
    unfolding read_as
    sight_first w q =
        sym (ap (read_as (sight n)) (face_corner s.text.now s.at (suc (c.value - 1)) c.after.at w some
        (several_first (number s.text.now) (c.value - 1) c.after.at w (sym (rw ct at q)))))

    -- its first corner is v
    module _ (v : Known ℕ) (vt : v.after.text ≡ c.after.text) (ev : good v.value v.after.at ≡ of number c.after) (x : Option Fault) where
      one : number s.text.now c.after.at ≡ good v.value v.after.at
      one = sym (rw ct at ev)

      pub sight_later : (w : ℕ) → bad w ≡ read_as (look n v.value x v.value) (several (number v.after.text.now) (c.value - 1) v.after.at)
          → bad w ≡ read_as (sight n) (of face s)
      unfolding read_as
      sight_later w r =
          let q = as_err (look n v.value x v.value) (several (number s.text.now) (c.value - 1) v.after.at) w (rw (vt, ct) at r) in
          sym (ap (read_as (sight n)) (face_corner s.text.now s.at (suc (c.value - 1)) c.after.at w some
          (several_bad (number s.text.now) (c.value - 1) c.after.at v.value v.after.at w one q)))

      pub sight_good : x ≡ then_some (ltb c.value 3) Poor → (k : Known (Option Fault))
          → good k.value k.after.at ≡ read_as (look n v.value x v.value) (several (number v.after.text.now) (c.value - 1) v.after.at)
          → (b : ℕ) → b ≡ line_end s.text.now k.after.at
          → good (record { fault = k.value; corners = c.value }) b ≡ read_as (sight n) (of face s)
      unfolding read_as look
      sight_good ex k i b eb =
          let r = as_ok (look n v.value x v.value) (several (number s.text.now) (c.value - 1) v.after.at) k.value k.after.at (rw (vt, ct) at i) in
          let m : c.value ≡ suc (length r.what) = omega (arith, several_length (number s.text.now) (c.value - 1) v.after.at r.what k.after.at r.is) in
          same_sight (fault_some n v.value r.what c.value x k.value ex m r.says) m eb
          ∙ sym (ap (read_as (sight n)) (face_good s.text.now s.at (suc (c.value - 1)) c.after.at k.after.at (v.value ∷ r.what) some
          (several_good (number s.text.now) (c.value - 1) c.after.at v.value v.after.at r.what k.after.at one r.is)))

-- the survey of the faces from number k on, s what those before say
unfoldable pub survey_from : ℕ → ℕ → Survey → List (List ℕ) → ℕ → Survey
survey_from n k s fs x = flaws_from n k s fs

-- k faces are read, up to p, and s is what they say
pub record Surveying (a : Place) (count n : ℕ) (s : Survey) (p : Place) (k : ℕ) : Type 0 where
  pub up_to : k ≤ count
  pub text : p.text ≡ a.text
  pub few : s.corners ≤ k * 4294967295
  pub left : told_of (surveyed n) (several (face a.text.now) count a.at) ≡ told_of (survey_from n k s) (several (face a.text.now) (count - k) p.at)

pub surveying_start : (a : Place) (count n : ℕ) → Surveying a count n (record { flaw = None; corners = 0 }) a 0
unfolding told_of surveyed survey_from flawless
surveying_start a count n =
    let z : count - 0 ≡ count = omega arith in
    record { up_to = omega arith; text = refl; few = omega arith; left = rw z (same (several (face a.text.now) count a.at)) }
  where
    same : (r : Read (List (List ℕ))) → told_of (surveyed n) r ≡ told_of (survey_from n 0 flawless) r
    same (bad w) = refl
    same (good fs x) = refl

module _ {a : Place} {count n : ℕ} {s : Survey} {p : Place} {k : ℕ} (l : Surveying a count n s p k) where
  module _ (h : k < count) where
    pub surveying_bad : (w : ℕ) → bad w ≡ read_as (sight n) (of face p) → several (face a.text.now) count a.at ≡ bad w
    unfolding several next told_of
    surveying_bad w e =
        let z : count - k ≡ suc (count - (k + 1)) = omega arith in
        told_err (surveyed n) _ (record { 0 = w })
        (sym (l.left ∙ rw (z, several, as_err (sight n) (face a.text.now p.at) w (rw l.text at e))))

    pub surveying_next : (f : Known Face) → f.after.text ≡ p.text → good f.value f.after.at ≡ read_as (sight n) (of face p)
        → f.value.corners < 4294967296 → (y : Survey) → y ≡ judged_of s k f.value → Surveying a count n y f.after (k + 1)
    unfolding several next told_of survey_from flaws_from
    surveying_next f t i b y ey =
        let z : count - k ≡ suc (count - (k + 1)) = omega arith in
        let q = as_ok (sight n) (face a.text.now p.at) f.value f.after.at (rw l.text at i) in
        let m : y.corners ≤ s.corners + f.value.corners = rw ey (judged_corners s k f.value) in
        record {
          up_to = omega arith;
          text = t ∙ l.text;
          few = omega (arith, l.few, m);
          left = l.left ∙ rw (z, several, q.is) (onto q.what (several (face a.text.now) (count - (k + 1)) f.after.at) q.says);
        }
      where
        onto : (g : List ℕ) (r : Read (List (List ℕ))) → f.value ≡ record { fault = fault_of n g; corners = length g }
            → told_of (survey_from n k s) (next r (λ fs q. good (g ∷ fs) q)) ≡ told_of (survey_from n (k + 1) y) r
        onto g (bad w) p = refl
        onto g (good fs u) p = let o : suc k ≡ k + 1 = omega arith in rw (ey, p, o)

  pub surveying_end : count ≤ k → Ok s ≡ told_of (surveyed n) (several (face a.text.now) count a.at)
  unfolding several told_of survey_from flaws_from
  surveying_end h = let z : count - k ≡ 0 = omega arith in sym (l.left ∙ rw z)
