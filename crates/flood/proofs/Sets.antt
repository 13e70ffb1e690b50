-- Laws of sets of ranks: what two runs keep, the sets that are used, and one run after another. Rests on the rules' Lists.
use Prim.Native.Nat.{ℕ, ◌+◌, ◌-◌, ◌≤◌, ◌<◌}
use mathlib.Core.Path.{◌≡◌, refl, sym, fun_ext}
use mathlib.Core.Logic.{◌≢◌, ◌⊎◌, inl, inr}
use mathlib.Core.Bool.{Bool, true, false, not, ◌||◌}
use native.Mathlib.Omega.{arith}
use native.Mathlib.Decide.{ℕ_discrete, dec_lt}
use lib.Dec.{eqb, ltb, leb}
use borrow.Author.Tests.{eq-eqb, ne_eqb, leb-true, le-leb, ltb-true, lt-ltb}
use Rattle.rules.specs.Map.{all_but}
use Rattle.rules.proofs.Lists.{and_left, and_right, both, or_cases, or_left, or_right, not_both}
use Rattle.flood.specs.declared.Ranks.{Ranks}
use Rattle.flood.specs.Flood.{kept, but_one, two_away, between}

-- two tests that pass for the same reasons are one
same_test : (a b : Bool) → (a ≡ true → b ≡ true) → (b ≡ true → a ≡ true) → a ≡ b
same_test true b f g = sym (f refl)
same_test false false f g = refl
same_test false true f g = g refl

-- the ranks of two runs
pub kept_low : (ranks : Ranks) (i : ℕ) → i < ranks.low → kept ranks i ≡ true
unfolding kept
kept_low ranks i h = or_left (ltb i ranks.low) (leb ranks.high i) (lt-ltb i ranks.low h)

pub kept_high : (ranks : Ranks) (i : ℕ) → ranks.high ≤ i → kept ranks i ≡ true
unfolding kept
kept_high ranks i h = or_right (ltb i ranks.low) (leb ranks.high i) (le-leb ranks.high i h)

pub kept_cases : (ranks : Ranks) (i : ℕ) → kept ranks i ≡ true → (i < ranks.low) ⊎ (ranks.high ≤ i)
unfolding kept
kept_cases ranks i k = go (or_cases (ltb i ranks.low) (leb ranks.high i) k)
  where
    go : (ltb i ranks.low ≡ true) ⊎ (leb ranks.high i ≡ true) → (i < ranks.low) ⊎ (ranks.high ≤ i)
    go (inl e) = inl (ltb-true i ranks.low e)
    go (inr e) = inr (leb-true ranks.high i e)

-- two runs that leave no gap are all ranks
pub kept_all : (ranks : Ranks) → ranks.high ≤ ranks.low → (i : ℕ) → kept ranks i ≡ true
kept_all ranks h i = go (dec_lt i ranks.low)
  where
    go : Dec (i < ranks.low) → kept ranks i ≡ true
    go (yes l) = kept_low ranks i l
    go (no l) = kept_high ranks i (omega arith)

-- all ranks but one
pub but_yes : (skip i : ℕ) → i ≢ skip → all_but skip i ≡ true
unfolding all_but
but_yes skip i h = rw (ne_eqb i skip h)

pub but_other : (skip i : ℕ) → all_but skip i ≡ true → i ≢ skip
unfolding all_but
but_other skip i k e = not_both (not (eqb i skip)) k (rw (eq-eqb i skip e))

pub kept_but : (skip : ℕ) → kept (but_one skip) ≡ all_but skip
kept_but skip = fun_ext (λ i. one i)
  where
    there : (i : ℕ) → (i < skip) ⊎ (skip + 1 ≤ i) → all_but skip i ≡ true
    there i (inl h) = but_yes skip i (omega arith)
    there i (inr h) = but_yes skip i (omega arith)

    back : (i : ℕ) → i ≢ skip → Dec (i < skip) → kept (but_one skip) i ≡ true
    back i e (yes h) = kept_low (but_one skip) i h
    back i e (no h) = kept_high (but_one skip) i (omega arith)

    one : (i : ℕ) → kept (but_one skip) i ≡ all_but skip i
    one i =
        same_test (kept (but_one skip) i) (all_but skip i) (λ k. there i (kept_cases (but_one skip) i k)) (λ k. back i (but_other skip i k) (dec_lt i skip))

-- the ranks at least two away from one
pub kept_away : (j i : ℕ) → (i + 2 ≤ j) ⊎ (j + 2 ≤ i) → kept (two_away j) i ≡ true
kept_away j i (inl h) = kept_low (two_away j) i (omega arith)
kept_away j i (inr h) = kept_high (two_away j) i (omega arith)

pub away_kept : (j i : ℕ) → kept (two_away j) i ≡ true → (i + 2 ≤ j) ⊎ (j + 2 ≤ i)
away_kept j i k = go (kept_cases (two_away j) i k)
  where
    go : (i < (two_away j).low) ⊎ ((two_away j).high ≤ i) → (i + 2 ≤ j) ⊎ (j + 2 ≤ i)
    go (inl h) = inl (omega arith)
    go (inr h) = inr (omega arith)

-- the ranks of one run
pub between_yes : (from to i : ℕ) → from ≤ i → i < to → between from to i ≡ true
unfolding between
between_yes from to i h k = both (leb from i) (ltb i to) (le-leb from i h) (lt-ltb i to k)

between_low : (from to i : ℕ) → between from to i ≡ true → from ≤ i
unfolding between
between_low from to i e = leb-true from i (and_left (leb from i) (ltb i to) e)

between_high : (from to i : ℕ) → between from to i ≡ true → i < to
unfolding between
between_high from to i e = ltb-true i to (and_right (leb from i) (ltb i to) e)

-- no rank yet
pub between_none : (from i : ℕ) → between from from i ≡ true → ⊥
between_none from i k = omega (arith, between_low from from i k, between_high from from i k)

-- one rank
pub between_only : (from i : ℕ) → between from (from + 1) i ≡ true → i ≡ from
between_only from i k = omega (arith, between_low from (from + 1) i k, between_high from (from + 1) i k)

-- one rank more
pub between_next : (from to i : ℕ) → from ≤ to → between from (to + 1) i ≡ (between from to i || between to (to + 1) i)
between_next from to i h = same_test (between from (to + 1) i) (between from to i || between to (to + 1) i)
    (λ k. there (between_low from (to + 1) i k) (between_high from (to + 1) i k) (ℕ_discrete i to))
    (λ k. back (or_cases (between from to i) (between to (to + 1) i) k))
  where
    there : from ≤ i → i < to + 1 → Dec (i ≡ to) → (between from to i || between to (to + 1) i) ≡ true
    there l u (yes e) = or_right (between from to i) (between to (to + 1) i) (between_yes to (to + 1) i (omega arith) u)
    there l u (no e) = or_left (between from to i) (between to (to + 1) i) (between_yes from to i l (omega arith))

    back : (between from to i ≡ true) ⊎ (between to (to + 1) i ≡ true) → between from (to + 1) i ≡ true
    back (inl k) = between_yes from (to + 1) i (between_low from to i k) (omega (arith, between_high from to i k))
    back (inr k) = between_yes from (to + 1) i (omega (arith, between_low to (to + 1) i k)) (between_high to (to + 1) i k)

-- the run is done, or there was none
pub between_end : (from to e i : ℕ) → to ≤ e → e - from ≤ to - from → between from to i ≡ between from e i
between_end from to e i h m = same_test (between from to i) (between from e i)
    (λ k. between_yes from e i (between_low from to i k) (omega (arith, between_high from to i k)))
    (λ k. between_yes from to i (between_low from e i k) (omega (arith, between_low from e i k, between_high from e i k)))

-- the two runs among the ranks of a map
pub kept_runs : (ranks : Ranks) (N i : ℕ) → i ≤ N → kept ranks i ≡ (between 0 ranks.low i || between ranks.high (N + 1) i)
kept_runs ranks N i h = same_test (kept ranks i) (between 0 ranks.low i || between ranks.high (N + 1) i)
    (λ k. there (kept_cases ranks i k))
    (λ k. back (or_cases (between 0 ranks.low i) (between ranks.high (N + 1) i) k))
  where
    there : (i < ranks.low) ⊎ (ranks.high ≤ i) → (between 0 ranks.low i || between ranks.high (N + 1) i) ≡ true
    there (inl l) = or_left (between 0 ranks.low i) (between ranks.high (N + 1) i) (between_yes 0 ranks.low i (omega arith) l)
    there (inr u) = or_right (between 0 ranks.low i) (between ranks.high (N + 1) i) (between_yes ranks.high (N + 1) i u (omega arith))

    back : (between 0 ranks.low i ≡ true) ⊎ (between ranks.high (N + 1) i ≡ true) → kept ranks i ≡ true
    back (inl k) = kept_low ranks i (between_high 0 ranks.low i k)
    back (inr k) = kept_high ranks i (between_low ranks.high (N + 1) i k)
