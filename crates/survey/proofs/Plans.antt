-- Laws of the plan: what the vertices and the faces of a text say of it, and what it says of the file.
use Prim.Native.Nat.{ℕ, ◌*◌}
use mathlib.Core.Path.{◌≡◌, refl, ◌∙◌}
use mathlib.Core.List.{List}
use native.Mathlib.Omega.{arith}
use Rattle.shapes.specs.Text.{Read, bad, good, next, word, keyword, number, several, face, File, file}
use Rattle.std.specs.Prelude.{Result, Ok}
use Rattle.std.specs.Result.{IsErrAnd}
use Rattle.std.proofs.lemmas.Result.{err_from_is_err_and}
use Rattle.text.specs.declared.Malformed.{Malformed}
use Rattle.text.specs.declared.place.Place.{Place}
use Rattle.text.specs.declared.Known.{Known}
use Rattle.text.specs.declared.Sizes.{Sizes}
use Rattle.text.specs.Fresh.{Fresh}
use Rattle.text.specs.Leaves.{told_of, alone, end, counts}
use Rattle.text.proofs.Readings.{told_ok, told_end, next_good, word_fresh, counts_fresh, several_keep}
use Rattle.survey.specs.declared.Survey.{Survey}
use Rattle.survey.specs.declared.Plan.{Plan}
use Rattle.survey.specs.Flaws.{surveyed, Outline, outlines, plan_of, planned, plan}

-- after the counts, which end at a place
module _ (k : Known Sizes) where
  pub planned_words : (w : ℕ) → several (word k.after.text.now) (3 * k.value.vertices) k.after.at ≡ bad w
      → planned k.after.text.now k.value k.after.at ≡ bad w
  unfolding planned next
  planned_words w q = rw q

  -- where the first face stands
  module _ (u : Place) (ut : u.text ≡ k.after.text)
      (eu : Ok u.at ≡ told_of end (several (word k.after.text.now) (3 * k.value.vertices) k.after.at)) where
    pub planned_faces : (w : ℕ) → several (face u.text.now) k.value.faces u.at ≡ bad w → planned k.after.text.now k.value k.after.at ≡ bad w
    unfolding planned next
    planned_faces w q = rw ((told_end _ _ eu).1, rw ut at q)

    pub planned_good : (s : Survey) → Ok s ≡ told_of (surveyed k.value.vertices) (several (face u.text.now) k.value.faces u.at)
        → Ok (plan_of u.at s) ≡ told_of alone (planned k.after.text.now k.value k.after.at)
    unfolding planned next told_of
    planned_good s q =
        let f = told_ok (surveyed k.value.vertices) (several (face k.after.text.now) k.value.faces u.at) s (rw ut at q) in
        rw ((told_end _ _ eu).1, f.is, ← f.says)

-- the exit of a `?` where a plan is answered
pub plan_exit : (x : Read Outline) (e : Malformed) (r : Result Plan Malformed) → IsErrAnd r (λ y. y ≡ e) → x ≡ bad e.0 → outlines r ≡ told_of alone x
unfolding told_of
plan_exit x e r h q = let (y, p, z) = err_from_is_err_and r h in rw (p, z, q)

-- the whole text
module _ (t : List ℕ) where
  pub plan_keyword : (w : ℕ) → keyword t 0 ≡ bad w → plan t ≡ bad w
  unfolding plan next
  plan_keyword w e = rw e

  module _ (p : ℕ) (ep : Ok p ≡ told_of end (keyword t 0)) where
    pub plan_counts : (w : ℕ) → bad w ≡ counts t p → plan t ≡ bad w
    unfolding plan next
    plan_counts w q = rw ((told_end _ _ ep).1, ← q)

    pub plan_body : (c : Sizes) (q : ℕ) → good c q ≡ counts t p → planned t c q ≡ plan t
    unfolding plan next
    plan_body c q r = rw ((told_end _ _ ep).1, ← r)

-- the file, by the counts as they are read
filed : List ℕ → Sizes → ℕ → Read File
filed t c e =
    next (several (word t) (3 * c.vertices) e) (λ ws u.
    next (several (face t) c.faces u) (λ fs x. good (record { vertices = c.vertices; faces = fs }) x))

file_is : (t : List ℕ) → file t ≡ next (keyword t 0) (λ w p. next (counts t p) (λ c q. filed t c q))
unfolding file counts filed next
file_is t = go (keyword t 0)
  where
    rest : ℕ → ℕ → ℕ → Read File
    rest v f s = filed t (record { vertices = v; faces = f }) s

    third : (v f : ℕ) (x : Read ℕ)
        → next x (λ e s. rest v f s) ≡ next (next x (λ e s. good (record { vertices = v; faces = f }) s)) (λ (c : Sizes) q. filed t c q)
    third v f (bad w) = refl
    third v f (good e s) = refl

    second : (v : ℕ) (x : Read ℕ)
        → next x (λ f r. next (number t r) (λ e s. rest v f s))
        ≡ next (next x (λ f r. next (number t r) (λ e s. good (record { vertices = v; faces = f }) s))) (λ (c : Sizes) q. filed t c q)
    second v (bad w) = refl
    second v (good f r) = third v f (number t r)

    first : (x : Read ℕ)
        → next x (λ v q. next (number t q) (λ f r. next (number t r) (λ e s. rest v f s)))
        ≡ next (next x (λ v q. next (number t q) (λ f r. next (number t r) (λ e s. good (record { vertices = v; faces = f }) s))))
        (λ (c : Sizes) q. filed t c q)
    first (bad w) = refl
    first (good v q) = second v (number t q)

    go : (x : Read ℕ)
        → next x (λ w p. next (number t p) (λ v q. next (number t q) (λ f r. next (number t r) (λ e s. rest v f s))))
        ≡ next x (λ w p. next (counts t p) (λ c q. filed t c q))
    go (bad w) = refl
    go (good w p) = first (number t p)

-- two readings that begin alike, where what follows in one is 26 wherever it is in the other
next_bad : {A B C : Type 0} (x : Read A) (f : A → ℕ → Read B) (g : A → ℕ → Read C) (w : ℕ)
    → ((a : A) (p : ℕ) → f a p ≡ bad w → g a p ≡ bad w) → next x f ≡ bad w → next x g ≡ bad w
unfolding next
next_bad (bad u) f g w h e = cc
next_bad (good a p) f g w h e = h a p e

-- what was read is not 26
never : {A B : Type 0} (a : A) (p : ℕ) (b : B) (w : ℕ) → good a p ≡ bad w → good b p ≡ bad w
never a p b w e = let z : ◌≡◌ {A = ℕ} 0 1 = cc in absurd (omega arith)

-- where the plan is 26 the file is
pub file_bad : (t : List ℕ) (w : ℕ) → plan t ≡ bad w → file t ≡ bad w
unfolding plan planned filed
file_bad t w e =
    file_is t
    ∙ next_bad (keyword t 0) _ _ w (λ o p. next_bad (counts t p) _ _ w (λ c q. next_bad (several (word t) (3 * c.vertices) q) _ _ w (λ ws u.
    next_bad (several (face t) c.faces u) _ _ w (λ fs x. never _ x _ w)))) e

-- and else the plan is of the file
pub record Filed (t : List ℕ) (p : Outline) (x : ℕ) : Type 0 where
  pub what : File
  pub is : file t ≡ good what x
  pub count : ℕ
  pub faces : several (face t) count p.start ≡ good what.faces x
  pub says : p ≡ plan_of p.start (surveyed what.vertices what.faces x)
  pub fresh : Fresh t p.start

-- the same by the readings
module _ (t : List ℕ) (o p : ℕ) (c : Sizes) (q : ℕ) (eo : keyword t 0 ≡ good o p) (ec : counts t p ≡ good c q) where
  read_so : (ws : List ℕ) (u : ℕ) (fs : List (List ℕ)) (x : ℕ)
      → several (word t) (3 * c.vertices) q ≡ good ws u → several (face t) c.faces u ≡ good fs x
      → Filed t (plan_of u (surveyed c.vertices fs x)) x
  unfolding filed next plan_of
  read_so ws u fs x eu ex =
      record {
        what = record { vertices = c.vertices; faces = fs };
        is = file_is t ∙ rw (eo, ec, eu, ex);
        count = c.faces;
        faces = ex;
        says = refl;
        fresh = several_keep (word t) (Fresh t) (λ p e x. word_fresh t p x e) (3 * c.vertices) q (counts_fresh t p q c ec) u ws eu;
      }

-- the same of an equal plan
filed_same : (t : List ℕ) (a b : Outline) (x y : ℕ) → good a x ≡ good b y → Filed t a x → Filed t b y
filed_same t a b x y e f = let p : b ≡ a = cc in let q : y ≡ x = cc in rw (p, q) f

-- where the plan was read so was the file
pub file_good : (t : List ℕ) (p : Outline) (x : ℕ) → plan t ≡ good p x → Filed t p x
unfolding plan planned
file_good t p x e =
    let a = next_good (keyword t 0) _ p x e in
    let b = next_good (counts t a.after) _ p x a.two in
    let c = next_good (several (word t) (3 * b.what.vertices) b.after) _ p x b.two in
    let d = next_good (several (face t) b.what.faces c.after) _ p x c.two in
    filed_same t _ p _ x d.two (read_so t _ _ _ _ a.one b.one _ _ _ _ c.one d.one)
