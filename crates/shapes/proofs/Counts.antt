-- Laws of counting: numbers that pass a test are counted, and what is counted are numbers that pass; counting below a sum, and by an equal test.
use Prim.Native.Nat.{ℕ, zero, suc, ◌+◌, ◌≤◌, ◌<◌}
use mathlib.Core.Path.{◌≡◌, refl}
use mathlib.Core.Bool.{Bool, true, false, cond}
use native.Mathlib.Omega.{arith}
use native.Mathlib.Decide.{ℕ_discrete}
use Rattle.rules.specs.Lists.{count_below}

-- numbers that pass are counted
pub count_one : (k : ℕ) (f : ℕ → Bool) (a : ℕ) → a < k → f a ≡ true → 1 ≤ count_below k f
unfolding count_below
count_one zero f a h p = absurd (omega arith)
count_one (suc k) f a h p = go (ℕ_discrete a k) (λ l. count_one k f a l p)
  where
    go : Dec (a ≡ k) → (a < k → 1 ≤ count_below k f) → 1 ≤ cond (f k) 1 0 + count_below k f
    go (yes e) r = let q : f k ≡ true = rw e at p in rw q (omega arith)
    go (no e) r = omega (arith, r (omega arith))

pub count_two : (k : ℕ) (f : ℕ → Bool) (a b : ℕ) → a < b → b < k → f a ≡ true → f b ≡ true → 2 ≤ count_below k f
unfolding count_below
count_two zero f a b l h p q = absurd (omega arith)
count_two (suc k) f a b l h p q = go (ℕ_discrete b k) (λ i. count_two k f a b l i p q)
  where
    go : Dec (b ≡ k) → (b < k → 2 ≤ count_below k f) → 2 ≤ cond (f k) 1 0 + count_below k f
    go (yes e) r = let z : f k ≡ true = rw e at q in rw z (omega (arith, count_one k f a (omega arith) p))
    go (no e) r = omega (arith, r (omega arith))

-- and what is counted are numbers that pass
pub one_count : (k : ℕ) (f : ℕ → Bool) → 1 ≤ count_below k f → (a : ℕ) × (a < k) × (f a ≡ true)
unfolding count_below
one_count zero f h = absurd (omega arith)
one_count (suc k) f h = go (f k) refl h (one_count k f)
  where
    go : (b : Bool) → f k ≡ b → 1 ≤ cond b 1 0 + count_below k f → (1 ≤ count_below k f → (a : ℕ) × (a < k) × (f a ≡ true))
        → (a : ℕ) × (a < suc k) × (f a ≡ true)
    go true e h r = (k, omega arith, e)
    go false e h r = let (a, l, p) = r (omega arith) in (a, omega arith, p)

pub two_count : (k : ℕ) (f : ℕ → Bool) → 2 ≤ count_below k f → (a : ℕ) × (b : ℕ) × (a < b) × (b < k) × (f a ≡ true) × (f b ≡ true)
unfolding count_below
two_count zero f h = absurd (omega arith)
two_count (suc k) f h = go (f k) refl h (two_count k f)
  where
    go : (b : Bool) → f k ≡ b → 2 ≤ cond b 1 0 + count_below k f
        → (2 ≤ count_below k f → (a : ℕ) × (b : ℕ) × (a < b) × (b < k) × (f a ≡ true) × (f b ≡ true))
        → (a : ℕ) × (b : ℕ) × (a < b) × (b < suc k) × (f a ≡ true) × (f b ≡ true)
    go true e h r = let (a, l, p) = one_count k f (omega arith) in (a, k, l, omega arith, p, e)
    go false e h r = let (a, b, l, i, p, q) = r (omega arith) in (a, b, l, omega arith, p, q)

-- counting below a sum
pub count_add : (a b : ℕ) (g : ℕ → Bool) → count_below (a + b) g ≡ count_below a g + count_below b (λ j. g (a + j))
unfolding count_below
count_add a zero g = let z : a + 0 ≡ a = omega arith in rw z (omega arith)
count_add a (suc b) g = let z : a + suc b ≡ suc (a + b) = omega arith in rw z (omega (arith, count_add a b g))

pub count_same : (k : ℕ) (f g : ℕ → Bool) → ((i : ℕ) → i < k → f i ≡ g i) → count_below k f ≡ count_below k g
unfolding count_below
count_same zero f g h = refl
count_same (suc k) f g h = rw (h k (omega arith), count_same k f g (λ i l. h i (omega arith)))
