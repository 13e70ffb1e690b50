-- How the sets of refusal numbers lie to each other. Beside this file only the laws about where a number is given see which numbers a set holds.
-- Rests on Lists.
use Prim.Native.Nat.{ℕ, ◌<◌}
use mathlib.Core.Path.{◌≡◌, refl}
use mathlib.Core.Logic.{◌≢◌, ◌⊎◌, inl, inr}
use mathlib.Core.List.{[], ◌∷◌}
use mathlib.Core.Bool.{Bool, true, false, not, ◌&&◌, ◌||◌}
use native.Mathlib.Omega.{arith}
use native.Mathlib.Decide.{dec_lt}
use lib.Dec.{eqb, leb}
use borrow.Author.Tests.{eqb-true, ne_eqb, le-leb, lt-leb}
use Rattle.rules.specs.Lists.{all_below}
use Rattle.rules.specs.Refusals.{among, of_index, at_header, in_step, at_end, wipes, fit_refused}
use Rattle.rules.proofs.Lists.{and_right, or_cases, or_left, or_right, not_both, all_below_lem}

pub one_at_header : at_header 1 ≡ true
unfolding at_header among
one_at_header = refl

pub three_at_header : at_header 3 ≡ true
unfolding at_header among
three_at_header = refl

-- what is wrong with a w is found in a step
pub index_step : (nr : ℕ) → of_index nr ≡ true → in_step nr ≡ true
unfolding in_step
index_step nr e = or_left (of_index nr) (among (13 ∷ 14 ∷ []) nr) e

-- what a step finds, what the end finds and an early close wipe the tables
pub step_wipes : (nr : ℕ) → in_step nr ≡ true → wipes nr ≡ true
unfolding wipes
step_wipes nr e = or_left (eqb nr 11 || eqb nr 12 || in_step nr) (at_end nr) (or_right (eqb nr 11 || eqb nr 12) (in_step nr) e)

pub end_wipes : (nr : ℕ) → at_end nr ≡ true → wipes nr ≡ true
unfolding wipes
end_wipes nr e = or_right (eqb nr 11 || eqb nr 12 || in_step nr) (at_end nr) e

pub close_wipes : wipes 11 ≡ true
unfolding wipes of_index in_step at_end among
close_wipes = refl

-- and so does a byte after the end
pub after_wipes : wipes 18 ≡ true
unfolding wipes of_index in_step at_end among
after_wipes = refl

or_none : (b : Bool) → (b || false) ≡ b
or_none true = refl
or_none false = refl

or_any : (b : Bool) → (b || true) ≡ true
or_any true = refl
or_any false = refl

-- each of these stays in the record
pub wipes_fit : (nr p : ℕ) → wipes nr ≡ true → fit_refused nr p ≡ true
unfolding fit_refused
wipes_fit nr p e = rw (e, or_any)

pub header_fit : (nr : ℕ) → at_header nr ≡ true → fit_refused nr 0 ≡ true
unfolding fit_refused
header_fit nr e = rw e

-- 0 is no refusal
pub refused_some : (nr p : ℕ) → fit_refused nr p ≡ true → nr ≢ 0
unfolding fit_refused at_header wipes of_index in_step at_end among
refused_some nr p e z = not_both (fit_refused 0 p) (rw z at e) refl

pub wipes_some : (nr : ℕ) → wipes nr ≡ true → nr ≢ 0
wipes_some nr e = refused_some nr 0 (wipes_fit nr 0 e)

-- one that leaves the tables has place 0
pub refused_place : (nr p : ℕ) → fit_refused nr p ≡ true → wipes nr ≡ false → p ≡ 0
unfolding fit_refused
refused_place nr p e n = go (or_cases (at_header nr && eqb p 0) (wipes nr) e)
  where
    go : ((at_header nr && eqb p 0) ≡ true) ⊎ (wipes nr ≡ true) → p ≡ 0
    go (inl q) = eqb-true p 0 (and_right (at_header nr) (eqb p 0) q)
    go (inr q) = absurd (not_both (wipes nr) q n)

-- from a to c
unfoldable pub between : ℕ → ℕ → ℕ → Bool
between a c nr = leb a nr && leb nr c

same : Bool → Bool → Bool
same true y = y
same false y = not y

same_is : (x y : Bool) → same x y ≡ true → x ≡ y
unfolding same
same_is true true e = refl
same_is true false e = absurd (not_both false e refl)
same_is false false e = refl
same_is false true e = absurd (not_both false e refl)

-- 11 to 18, 21 to 23 and 30 wipe the tables
pub wipes_exactly : (nr : ℕ) → wipes nr ≡ (between 11 18 nr || between 21 23 nr || eqb nr 30)
unfolding wipes of_index in_step at_end among between same
wipes_exactly nr = go (dec_lt nr 31)
  where
    go : Dec (nr < 31) → wipes nr ≡ (between 11 18 nr || between 21 23 nr || eqb nr 30)
    go (yes l) = same_is _ _ (all_below_lem 31 (λ k. same (wipes k) (between 11 18 k || between 21 23 k || eqb k 30)) (unfold all_below in refl) nr l)
    go (no l) =
        rw (
          ne_eqb nr 11 (λ e. omega arith),
          ne_eqb nr 12 (λ e. omega arith),
          ne_eqb nr 13 (λ e. omega arith),
          ne_eqb nr 14 (λ e. omega arith),
          ne_eqb nr 15 (λ e. omega arith),
          ne_eqb nr 16 (λ e. omega arith),
          ne_eqb nr 17 (λ e. omega arith),
          ne_eqb nr 18 (λ e. omega arith),
          ne_eqb nr 21 (λ e. omega arith),
          ne_eqb nr 22 (λ e. omega arith),
          ne_eqb nr 23 (λ e. omega arith),
          ne_eqb nr 30 (λ e. omega arith),
          le-leb 11 nr (omega arith),
          le-leb 21 nr (omega arith),
          lt-leb nr 18 (omega arith),
          lt-leb nr 23 (omega arith),
        )

-- a refused record is fit with 1 or 3 at place 0, with 11 to 18, with 21 to 23 and with 30, and with no other number
pub fit_exactly : (nr p : ℕ) → fit_refused nr p ≡ (((eqb nr 1 || eqb nr 3) && eqb p 0) || (between 11 18 nr || between 21 23 nr || eqb nr 30))
unfolding fit_refused at_header among
fit_exactly nr p = rw (wipes_exactly nr, or_none)
