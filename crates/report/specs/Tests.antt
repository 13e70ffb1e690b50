-- The tests of the loop over all links, counted by rank, then dart.
use Rattle.std.specs.Prelude.{ℕ, ◌/◌, ◌%◌, ◌≡◌, Bool, List, get_or, eqb}
use Rattle.rules.specs.Lists.{count_below}
use Rattle.rules.specs.Map.{by_dart, link}
use Rattle.report.specs.declared.Tally.{Tally}

-- the k-th link, by rank, then dart, stays within a class
unfoldable pub alike : ℕ → ℕ → List ℕ → List ℕ → ℕ → Bool
alike N n t w k = eqb (get_or w (k % n) 0) (get_or w (link by_dart N n t (k / n) (k % n)) 0)

-- it is a free pair's: it stays in place
unfoldable pub is_free : ℕ → ℕ → List ℕ → ℕ → Bool
is_free N n t k = eqb (link by_dart N n t (k / n) (k % n)) (k % n)

-- of the first k links those within a class are counted, and those in place
pub record Counted (N n : ℕ) (t w : List ℕ) (k : ℕ) (c : Tally) : Type 0 where
  pub near : c.alike ≡ count_below k (alike N n t w)
  pub still : c.free ≡ count_below k (is_free N n t)
