-- What is kept of the corners of a text without a flaw and without a third use holds what the map is built of.
use Prim.Native.Nat.{ℕ, ◌≤◌, ◌<◌}
use mathlib.Core.Path.{◌≡◌, ap, sym, ◌∙◌}
use mathlib.Core.List.{List, [], ◌++◌, append-nil}
use mathlib.Core.Bool.{false, cond}
use native.Mathlib.Omega.{arith}
use native.Mathlib.Decide.{dec_lt}
use lib.ListN.{length, get_or}
use lib.Dec.{eqb, ltb}
use borrow.Author.Tests.{lt-ltb, le-ltb, eq-eqb, eqb-true}
use Rattle.rules.specs.Map.{mark}
use Rattle.shapes.specs.Text.{good, several, face}
use Rattle.shapes.specs.Faces.{all_corners, corner_at, alike, third, twin}
use Rattle.shapes.proofs.Corners.{framed}
use Rattle.shapes.proofs.Built.{twin_alike, twin_other, twin_only}
use Rattle.corners.specs.Steps.{begun}
use Rattle.sides.specs.Sides.{key_at, Twin, alone, paired, Kept}
use Rattle.build.specs.Parts.{Lefts, Holds}
use Rattle.faces.proofs.Flawed.{Sound}
use Rattle.faces.proofs.Told.{own_told, left_told, alike_told, sound_rich}

module _ (t : List ℕ) (fs : List (List ℕ)) (vertices count p x : ℕ) (sound : Sound vertices fs) (small : vertices ≤ 4294967296)
    (read : several (face t) count p ≡ good fs x) (few : length (all_corners 0 fs) ≤ 2048)
    (twice : (c : ℕ) → c < length (all_corners 0 fs) → third (all_corners 0 fs) c ≡ false)
    {twins owns lefts : List ℕ} (kept : Kept t (begun p) twins owns lefts (length (all_corners 0 fs))) where
  all : several (face t) count p ≡ good (fs ++ []) x
  all = read ∙ ap (λ (l : List (List ℕ)). good l x) (sym (append-nil fs))

  -- the corners of all faces are those of the faces passed
  same : all_corners 0 (fs ++ []) ≡ all_corners 0 fs
  same = ap (all_corners 0) (append-nil fs)

  -- two corners are alike exactly if their keys are equal
  told : (c e : ℕ) → c < length (all_corners 0 fs) → e < length (all_corners 0 fs)
      → alike (corner_at (all_corners 0 fs) c) (corner_at (all_corners 0 fs) e) ≡ eqb (key_at t (begun p) c) (key_at t (begun p) e)
  told c e hc he = rw same at (alike_told t fs [] vertices count p x sound small all c e hc he)

  -- a corner's twin
  twin_is : (c w : ℕ) → c < length (all_corners 0 fs) → Twin (key_at t (begun p)) (length (all_corners 0 fs)) c w
      → w ≡ cond (ltb (twin (all_corners 0 fs) c) (length (all_corners 0 fs))) (twin (all_corners 0 fs) c) mark
  twin_is c w h (alone f) = go (dec_lt (twin (all_corners 0 fs) c) (length (all_corners 0 fs)))
    where
      go : Dec (twin (all_corners 0 fs) c < length (all_corners 0 fs))
          → 65535 ≡ cond (ltb (twin (all_corners 0 fs) c) (length (all_corners 0 fs))) (twin (all_corners 0 fs) c) mark
      go (yes l) =
          let e = twin (all_corners 0 fs) c in
          let k = eqb-true (key_at t (begun p) c) (key_at t (begun p) e) (sym (told c e h l) ∙ twin_alike (all_corners 0 fs) c l) in
          absurd (twin_other (all_corners 0 fs) c l (f e l (sym k)))
      go (no l) = rw (le-ltb (twin (all_corners 0 fs) c) (length (all_corners 0 fs)) (omega arith))
  twin_is c w h (paired z w' b l ne k is) =
      let a = told c z h l ∙ eq-eqb (key_at t (begun p) c) (key_at t (begun p) z) (sym k) in
      let e = twin_only (all_corners 0 fs) twice c z h l ne a in
      rw (e, lt-ltb z (length (all_corners 0 fs)) l) (is (omega arith))

  pub held : Holds fs twins owns lefts
  held =
      record {
        rich = sound_rich sound;
        own = λ c h. kept.own c h ∙ rw same at (own_told t fs [] vertices count p x sound small all c h);
        left = λ c h. kept.left c h ∙ rw same at (left_told t fs [] vertices count p x sound small all c h);
        twin = λ c h. twin_is c (get_or twins c 0) h (kept.twin c h);
      }

  pub lefts_held : Lefts lefts (length (all_corners 0 fs))
  lefts_held =
      record {
        few = few;
        some = λ c h. rw (held.left c h) (framed fs c h).left_some;
        within = λ c h. rw (held.left c h) (framed fs c h).within;
      }
