-- What the plan of a text and the first third use before its flaw tell of the verdict.
use Prim.Native.Nat.{ℕ, ◌+◌, ◌*◌, ◌-◌, ◌≤◌, ◌<◌}
use mathlib.Core.Path.{◌≡◌, ap, sym, ◌∙◌}
use mathlib.Core.List.{List, [], ◌∷◌, ◌++◌, append-nil}
use mathlib.Core.Bool.{false}
use native.Mathlib.Omega.{arith}
use lib.ListN.{length}
use Rattle.rules.specs.declared.Form.TheVariants.{One}
use Rattle.rules.specs.Lists.{count_below, first}
use Rattle.rules.specs.Map.{Layout}
use Rattle.rules.specs.Check.{Verdict, verdict}
use Rattle.shapes.specs.Text.{good, File, file, keyword, number, word, several, face}
use Rattle.shapes.specs.Faces.{all_corners, third, faces_verdict, darts_of, map_on, read_verdict}
use Rattle.rules.proofs.Lists.{first_passes, first_before}
use Rattle.text.proofs.Readings.{next_good}
use Rattle.text.proofs.Numerals.{number_small}
use Rattle.std.specs.Prelude.{Option, Some, None}
use Rattle.survey.specs.declared.Flaw.{Flaw}
use Rattle.survey.specs.declared.Survey.{Survey}
use Rattle.survey.specs.Flaws.{Outline, reason_of, flawless, surveyed, flaws_from, plan_of}
use Rattle.rules.specs.Refusals.{number_of}
use Rattle.survey.proofs.Plans.{Filed}
use Rattle.corners.specs.Steps.{begun, last_at}
use Rattle.sides.specs.Sides.{key_at, third_use}
use Rattle.faces.proofs.Flawed.{Sound, Ending, whole, flawed, Cut, cut, face_at, pass_faces, third_face, flaw_face}
use Rattle.faces.proofs.Told.{third_told, face_told}

-- a file's count of vertices is below 1,000,000,000
pub file_small : (t : List ℕ) (m : File) (x : ℕ) → file t ≡ good m x → m.vertices < 1000000000
unfolding file
file_small t m x e =
    let a = next_good (keyword t 0) _ m x e in
    let b = next_good (number t a.after) _ m x a.two in
    let c = next_good (number t b.after) _ m x b.two in
    let d = next_good (number t c.after) _ m x c.two in
    let f = next_good (several (word t) (3 * b.what) d.after) _ m x d.two in
    let g = next_good (several (face t) c.what f.after) _ m x f.two in
    let z : b.what ≡ m.vertices = ap vertices (what (record { vertices = b.what; faces = g.what }) m g.after x g.two) in
    rw (← z) (number_small t a.after b.what b.after b.one)
  where
    vertices : File → ℕ
    vertices f = f.vertices

    what : (u v : File) (i j : ℕ) → good u i ≡ good v j → u ≡ v
    what u v i j e = cc

module _ (t : List ℕ) (p : Outline) (x : ℕ) (f : Filed t p x) where
  -- the text's faces
  abbrev pub fs : List (List ℕ)
  fs = f.what.faces

  parts : Cut f.what.vertices 0 0 fs (flaws_from f.what.vertices 0 flawless fs)
  unfolding flawless
  parts = cut f.what.vertices 0 0 fs

  -- the verdict of a text that 26 does not refuse
  read_good : (Y : Layout) (tb : List ℕ) (room : ℕ)
      → read_verdict Y (file t) tb room
      ≡ faces_verdict f.what.vertices (all_corners 0 fs) 0 0 fs (verdict One Y 2 (darts_of (all_corners 0 fs)) 0 (map_on Y (all_corners 0 fs) tb) room)
  unfolding read_verdict
  read_good Y tb room = rw f.is

  -- the faces before the flaw have so many corners
  ended : {s : Survey} {l : List (List ℕ)} (passed : List (List ℕ)) → Ending f.what.vertices 0 0 s passed l → s.corners ≡ length (all_corners 0 passed)
  ended passed (whole e) = rw e (omega arith)
  ended passed (flawed g rest nr h e) = rw e (omega arith)

  few : p.corners ≡ length (all_corners 0 parts.passed)
  unfolding plan_of surveyed
  few = ap (λ (b : Outline). b.corners) f.says ∙ ended parts.passed parts.ending

  small : f.what.vertices ≤ 4294967296
  small = omega (arith, file_small t f.what x f.is)

  read : several (face t) f.count p.start ≡ good (parts.passed ++ parts.rest) x
  read = f.faces ∙ ap (λ (l : List (List ℕ)). good l x) parts.all

  -- third uses before the flaw
  thirds : (c : ℕ) → c < p.corners → third (all_corners 0 fs) c ≡ third_use (key_at t (begun p.start)) c
  thirds c h =
      rw parts.all
      (third_told t parts.passed parts.rest f.what.vertices f.count p.start x parts.sound small read c (omega (arith, few)))

  -- 29
  pub judged_29 : (c : ℕ) → c ≡ first (third_use (key_at t (begun p.start))) p.corners → c < p.corners → (Y : Layout) (tb : List ℕ) (room : ℕ)
      → read_verdict Y (file t) tb room ≡ Verdict.refused 29 (count_below c (last_at t (begun p.start)))
  judged_29 c e h Y tb room =
      let kf = third_use (key_at t (begun p.start)) in
      let l : c < length (all_corners 0 parts.passed) = omega (arith, few) in
      let z : c - 0 ≡ c = omega arith in
      let later = verdict One Y 2 (darts_of (all_corners 0 fs)) 0 (map_on Y (all_corners 0 fs) tb) room in
      let told = face_told t parts.passed parts.rest f.what.vertices f.count p.start x parts.sound small read c l in
      let r = third_face f.what.vertices (all_corners 0 fs) later 0 0 parts.passed parts.rest parts.sound c (omega arith) (omega arith)
      (thirds c h ∙ rw e (first_passes kf p.corners (rw e at h)))
      (λ y a b. thirds y (omega arith) ∙ first_before kf p.corners y (rw e at b)) in
      read_good Y tb room
      ∙ (ap (λ (l : List (List ℕ)). faces_verdict f.what.vertices (all_corners 0 fs) 0 0 l later) parts.all
      ∙ (r ∙ ap (Verdict.refused 29) (rw z (nought (face_at c parts.passed) ∙ sym told))))
    where
      nought : (n : ℕ) → 0 + n ≡ n
      nought n = omega arith

  -- no third use before the flaw
  module _ (none : first (third_use (key_at t (begun p.start))) p.corners ≡ p.corners) where
    quiet : (c : ℕ) → c < p.corners → third (all_corners 0 fs) c ≡ false
    quiet c h = thirds c h ∙ first_before (third_use (key_at t (begun p.start))) p.corners c (rw none h)

    passed_by : (Y : Layout) (tb : List ℕ) (room : ℕ)
        → read_verdict Y (file t) tb room
        ≡ faces_verdict f.what.vertices (all_corners 0 fs) (0 + length parts.passed) (0 + length (all_corners 0 parts.passed)) parts.rest
        (verdict One Y 2 (darts_of (all_corners 0 fs)) 0 (map_on Y (all_corners 0 fs) tb) room)
    passed_by Y tb room =
        let later = verdict One Y 2 (darts_of (all_corners 0 fs)) 0 (map_on Y (all_corners 0 fs) tb) room in
        read_good Y tb room
        ∙ (ap (λ (l : List (List ℕ)). faces_verdict f.what.vertices (all_corners 0 fs) 0 0 l later) parts.all
        ∙ pass_faces f.what.vertices (all_corners 0 fs) later 0 0 parts.passed parts.rest parts.sound
        (λ c a b. quiet c (omega (arith, few))))

    -- 27 and 28
    pub judged_flaw : (w : Flaw) → p.flaw ≡ Some w → (Y : Layout) (tb : List ℕ) (room : ℕ)
        → read_verdict Y (file t) tb room ≡ Verdict.refused (number_of (reason_of w.fault)) w.face
    unfolding plan_of surveyed
    judged_flaw w h Y tb room = go parts.rest parts.ending (passed_by Y tb room)
      where
        s : Survey
        s = flaws_from f.what.vertices 0 flawless fs

        go : (l : List (List ℕ)) → Ending f.what.vertices 0 0 s parts.passed l
            → read_verdict Y (file t) tb room
            ≡ faces_verdict f.what.vertices (all_corners 0 fs) (0 + length parts.passed) (0 + length (all_corners 0 parts.passed)) l
            (verdict One Y 2 (darts_of (all_corners 0 fs)) 0 (map_on Y (all_corners 0 fs) tb) room)
            → read_verdict Y (file t) tb room ≡ Verdict.refused (number_of (reason_of w.fault)) w.face
        go [] (whole e) q =
            let z : ◌≡◌ {A = Option Flaw} (Some w) None = sym h ∙ (ap (λ (b : Outline). b.flaw) f.says ∙ ap (λ (b : Survey). b.flaw) e) in
            cc
        go (g ∷ rest) (flawed g' rest' x v e) q =
            let z : ◌≡◌ {A = Option Flaw} (Some w) (Some (record { fault = x; face = 0 + length parts.passed }))
            = sym h ∙ (ap (λ (b : Outline). b.flaw) f.says ∙ ap (λ (b : Survey). b.flaw) e) in
            let i : w ≡ record { fault = x; face = 0 + length parts.passed } = cc in
            q ∙ (flaw_face f.what.vertices (all_corners 0 fs) _ _ _ g rest x v ∙ sym (ap (λ (b : Flaw). Verdict.refused (number_of (reason_of b.fault)) b.face) i))

    -- none of them
    pub record Clean : Type 0 where
      pub sound : Sound f.what.vertices fs
      pub corners : length (all_corners 0 fs) ≡ p.corners
      pub twice : (c : ℕ) → c < length (all_corners 0 fs) → third (all_corners 0 fs) c ≡ false
      pub verdict : (Y : Layout) (tb : List ℕ) (room : ℕ) → read_verdict Y (file t) tb room
          ≡ verdict One Y 2 (darts_of (all_corners 0 fs)) 0 (map_on Y (all_corners 0 fs) tb) room

    pub judged_clean : p.flaw ≡ None → Clean
    unfolding plan_of surveyed faces_verdict
    judged_clean h = go parts.rest parts.ending parts.all passed_by
      where
        s : Survey
        s = flaws_from f.what.vertices 0 flawless fs

        go : (l : List (List ℕ)) → Ending f.what.vertices 0 0 s parts.passed l → fs ≡ parts.passed ++ l
            → ((Y : Layout) (tb : List ℕ) (room : ℕ) → read_verdict Y (file t) tb room
            ≡ faces_verdict f.what.vertices (all_corners 0 fs) (0 + length parts.passed) (0 + length (all_corners 0 parts.passed)) l
            (verdict One Y 2 (darts_of (all_corners 0 fs)) 0 (map_on Y (all_corners 0 fs) tb) room))
            → Clean
        go [] (whole e) a q =
            let z : fs ≡ parts.passed = a ∙ append-nil parts.passed in
            let n : length (all_corners 0 fs) ≡ p.corners = ap (λ (l : List (List ℕ)). length (all_corners 0 l)) z ∙ sym few in
            record { sound = rw z parts.sound; corners = n; twice = λ c l. quiet c (omega arith); verdict = q }
        go (g ∷ rest) (flawed g' rest' x v e) a q =
            let z : ◌≡◌ {A = Option Flaw} None (Some (record { fault = x; face = 0 + length parts.passed }))
            = sym h ∙ (ap (λ (b : Outline). b.flaw) f.says ∙ ap (λ (b : Survey). b.flaw) e) in
            cc
