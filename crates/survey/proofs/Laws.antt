-- Laws of 27 and 28: over the corners of a face, and with one face more.
use Prim.Native.Nat.{ℕ, suc, ◌+◌, ◌≤◌}
use mathlib.Core.Path.{◌≡◌, refl, ap, ◌∙◌}
use mathlib.Core.List.{List, [], ◌∷◌}
use mathlib.Core.Bool.{Bool, true, false, ◌||◌, cond}
use native.Mathlib.Omega.{arith}
use lib.ListN.{length}
use lib.Dec.{eqb, ltb, leb}
use Rattle.std.specs.Prelude.{Option, Some, None, is_some}
use Rattle.std.specs.Option.{option_or}
use Rattle.std.specs.Bool.{then_some}
use Rattle.shapes.specs.Faces.{Corner, corners_to, corners, some, large, poor}
use Rattle.survey.specs.declared.Fault.{Fault}
use Rattle.survey.specs.declared.Fault.TheVariants.{Large, Poor}
use Rattle.survey.specs.declared.Face.{Face}
use Rattle.survey.specs.declared.Survey.{Survey}
use Rattle.survey.specs.Flaws.{fault_of, worse_of, worst, first_of, judged_of}

-- a face adds at most its corners
pub judged_corners : (s : Survey) (k : ℕ) (f : Face) → (judged_of s k f).corners ≤ s.corners + f.corners
unfolding judged_of first_of
judged_corners s k f = go (is_some s.flaw) f.fault
  where
    go : (a : Bool) (x : Option Fault) → (cond a s (first_of s.corners k x f.corners)).corners ≤ s.corners + f.corners
    go true x = omega arith
    go false None = omega arith
    go false (Some x) = omega arith

-- what all corners of a list say: 27 wherever it is, else what stood before, else 28 wherever it is
worst_is : (n : ℕ) (x : Option Fault) (ks : List Corner)
    → worst n x ks ≡ cond (some (λ (k : Corner). leb n k.far) ks) (Some Large) (option_or x (then_some (some (λ (k : Corner). eqb k.own k.far) ks) Poor))
unfolding worst some worse_of
worst_is n None [] = refl
worst_is n (Some x) [] = refl
worst_is n x (k ∷ ks) =
    worst_is n (worse_of x n k.own k.far) ks
    ∙ one x (some (λ (k : Corner). leb n k.far) ks) (some (λ (k : Corner). eqb k.own k.far) ks) (leb n k.far) (eqb k.own k.far)
  where
    one : (x : Option Fault) (f l a e : Bool)
        → cond f (Some Large) (option_or (cond a (Some Large) (option_or x (then_some e Poor))) (then_some l Poor))
        ≡ cond (a || f) (Some Large) (option_or x (then_some (e || l) Poor))
    one x true l true e = refl
    one x true l false e = refl
    one x false l true e = refl
    one (Some x) false l false e = refl
    one None false l false true = refl
    one None false l false false = refl

-- the first of two tests may stand second
or_swap : (a b c : Bool) → (a || (b || c)) ≡ (b || (a || c))
or_swap true true c = refl
or_swap true false c = refl
or_swap false b c = refl

-- each vertex of a face is the far one of one side
far_large : (n v a : ℕ) (vs : List ℕ) → some (λ (k : Corner). leb n k.far) (corners_to v 0 (a ∷ vs)) ≡ large n (v ∷ vs)
unfolding corners_to some large
far_large n v a [] = refl
far_large n v a (b ∷ vs) = ap (λ (x : Bool). leb n b || x) (far_large n v b vs) ∙ or_swap (leb n b) (leb n v) (some (λ v. leb n v) vs)

-- a face with no corner
pub fault_none : (n : ℕ) → Some Poor ≡ fault_of n []
unfolding fault_of large poor some
fault_none n = refl

-- 27 and 28 of a face are what its corners say, after what so few of them begin with
fault_worst : (n v : ℕ) (vs : List ℕ) → worst n (then_some (ltb (suc (length vs)) 3) Poor) (corners_to v 0 (v ∷ vs)) ≡ fault_of n (v ∷ vs)
unfolding fault_of poor corners
fault_worst n v vs =
    worst_is n (then_some (ltb (suc (length vs)) 3) Poor) (corners_to v 0 (v ∷ vs))
    ∙ (ap (λ (f : Bool). cond f (Some Large) (rest (ltb (suc (length vs)) 3))) (far_large n v v vs)
    ∙ ap (cond (large n (v ∷ vs)) (Some Large)) (few (ltb (suc (length vs)) 3)))
  where
    L : Bool
    L = some (λ (k : Corner). eqb k.own k.far) (corners_to v 0 (v ∷ vs))

    rest : Bool → Option Fault
    rest b = option_or (then_some b Poor) (then_some L Poor)

    few : (b : Bool) → rest b ≡ then_some (b || L) Poor
    few true = refl
    few false = refl

-- with the count as it was read and what the corners came to
pub fault_some : (n v : ℕ) (vs : List ℕ) (c : ℕ) (x y : Option Fault)
    → x ≡ then_some (ltb c 3) Poor → c ≡ suc (length vs) → y ≡ worst n x (corners_to v 0 (v ∷ vs)) → y ≡ fault_of n (v ∷ vs)
fault_some n v vs c x y ex ec ey = ey ∙ rw (ex, ec) (fault_worst n v vs)
