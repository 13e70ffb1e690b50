-- The search for a deduction, one turn of the loop at a time, and what a partner is by the tables alone.
use Prim.Native.Nat.{ℕ, zero, suc, ◌+◌, ◌-◌, ◌≤◌, ◌<◌}
use mathlib.Core.Path.{◌≡◌, refl, ◌∙◌}
use mathlib.Core.Logic.{◌≢◌}
use mathlib.Core.List.{List}
use native.Mathlib.Omega.{arith}
use borrow.Author.Tests.{eq-eqb, ne_eqb}
use Rattle.rules.specs.Map.{by_dart, mark, link}
use Rattle.rules.specs.Walk.{Walk, link_of, unknown, Partner, deduce, partner}
use Rattle.steps.specs.Partners.{looking, deduced_for, partner_for}

-- the tables alone say what is to be done
deduce_looking : (w : Walk) (j b k i : ℕ) → deduce w j b k i ≡ deduce (looking w.layout w.dim w.darts w.links) j b k i
unfolding deduce unknown link_of
deduce_looking w j b zero i = refl
deduce_looking w j b (suc k) i = rw (deduce_looking w j b k (suc i))

pub partner_looking : (w : Walk) (j b : ℕ) → partner w j b ≡ partner (looking w.layout w.dim w.darts w.links) j b
unfolding partner unknown link_of
partner_looking w j b = rw (deduce_looking w j b (j - 1) 0)

-- what is left of the search from rank i on
pub record Deducing (N n : ℕ) (t : List ℕ) (j b i : ℕ) : Type 0 where
  pub up_to : i ≤ j
  pub left : deduced_for N n t j b ≡ deduce (looking by_dart N n t) j b (j - 1 - i) i

pub deducing_start : (N n : ℕ) (t : List ℕ) (j b : ℕ) → Deducing N n t j b 0
deducing_start N n t j b = let e : j - 1 - 0 ≡ j - 1 = omega arith in record { up_to = omega arith; left = rw e }

module _ {N n : ℕ} {t : List ℕ} {j b i : ℕ} (d : Deducing N n t j b i) where
  pub deducing_end : j ≤ i + 1 → Partner.asked ≡ deduced_for N n t j b
  unfolding deduce
  deducing_end h = let e : j - 1 - i ≡ 0 = omega arith in rw (d.left, e)

  module _ (h : i + 1 < j) {c : ℕ} (ec : c ≡ link by_dart N n t i b) {f : ℕ} (ef : f ≡ link by_dart N n t j c) where
    pub deducing_here : f ≢ mark → {e : ℕ} → e ≡ link by_dart N n t i f → Partner.deduced e ≡ deduced_for N n t j b
    unfolding deduce unknown link_of
    deducing_here q ee =
        let k : j - 1 - i ≡ suc (j - 1 - suc i) = omega arith in
        rw (d.left, k, ← ec, ← ef, ne_eqb f mark q, ee)

    pub deducing_next : f ≡ mark → Deducing N n t j b (i + 1)
    unfolding deduce unknown link_of
    deducing_next q =
        let k : j - 1 - i ≡ suc (j - 1 - suc i) = omega arith in
        let s : i + 1 ≡ suc i = omega arith in
        let r : deduce (looking by_dart N n t) j b (j - 1 - i) i
        ≡ deduce (looking by_dart N n t) j b (j - 1 - suc i) (suc i) = rw (k, ← ec, ← ef, eq-eqb f mark q) in
        record { up_to = omega arith; left = rw s (d.left ∙ r) }

-- the answer, one way through the code at a time
module _ (N n : ℕ) (t : List ℕ) (j b x : ℕ) (ex : x ≡ link by_dart N n t j b) where
  pub partner_known : x ≢ mark → Partner.known ≡ partner_for N n t j b
  unfolding partner unknown link_of
  partner_known q = rw (← ex, ne_eqb x mark q)

  pub partner_other : x ≡ mark → (p : Partner) → p ≡ deduced_for N n t j b → p ≡ partner_for N n t j b
  unfolding partner unknown link_of
  partner_other q p e = rw (← ex, eq-eqb x mark q) e
