-- The tests of fitness one by one, over the numbers that each looks at. The rules' definitions are these at a session's fields.
use Rattle.std.specs.Prelude.{ℕ, ◌+◌, ◌-◌, ◌/◌, ◌%◌, List, ◌∷◌, Bool, not, ◌&&◌, ◌||◌, cond, get_or, eqb, ltb, leb}
use Rattle.rules.specs.Lists.{all_below}
use Rattle.rules.specs.Map.{by_dart, mark, link}
use Rattle.rules.specs.Walk.{Walk, head}
use Rattle.rules.specs.Session.{asks}

-- position i is not above the one before it, or count
unfoldable pub falls_at : ℕ → List ℕ → ℕ → Bool
falls_at c positions i = leb (get_or positions i 0) (get_or (c ∷ positions) i 0)

-- position i is x
unfoldable pub is_at : List ℕ → ℕ → ℕ → Bool
is_at positions x i = eqb (get_or positions i 0) x

-- position i is 0, or i is not past N
unfoldable pub over_at : ℕ → List ℕ → ℕ → Bool
over_at N positions i = leb i N || eqb (get_or positions i 0) 0

-- the entry x of dart d at a rank whose position is p, when c darts are numbered
unfoldable pub entry_by : ℕ → ℕ → ℕ → ℕ → Bool
entry_by c p d x = cond (ltb d c) ((ltb x c || eqb x mark) && (leb p d || not (eqb x mark))) (eqb x mark)

-- the entry of dart d at rank i, whose position is p
unfoldable pub entry_of : ℕ → ℕ → List ℕ → ℕ → ℕ → ℕ → ℕ → Bool
entry_of N n t c p i d = entry_by c p d (link by_dart N n t i d)

-- the k-th entry by rank, then dart
unfoldable pub entry_at : ℕ → ℕ → List ℕ → ℕ → List ℕ → ℕ → Bool
entry_at N n t c positions k = entry_of N n t c (get_or positions (k / n) 0) (k / n) (k % n)

-- the test passes at every number from a on that is below b
unfoldable pub all_within : ℕ → ℕ → (ℕ → Bool) → Bool
all_within a b f = all_below (b - a) (λ k. f (a + k))

-- what stands at place k is a number below c
unfoldable pub known_at : List ℕ → ℕ → ℕ → Bool
known_at t c k = ltb (get_or t k 0) c

-- it is a number below c or the mark
unfoldable pub open_at : List ℕ → ℕ → ℕ → Bool
open_at t c k = ltb (get_or t k 0) c || eqb (get_or t k 0) mark

-- it is the mark
unfoldable pub blank_at : List ℕ → ℕ → Bool
blank_at t k = eqb (get_or t k 0) mark

-- dart d has a link of rank i
unfoldable pub linked_at : ℕ → ℕ → List ℕ → ℕ → ℕ → Bool
linked_at N n t i d = not (eqb (link by_dart N n t i d) mark)

-- the darts that rank i has passed and rank N has not have links of rank i
unfoldable pub passed_at : ℕ → ℕ → List ℕ → List ℕ → ℕ → Bool
passed_at N n t positions i = all_within (get_or positions N 0) (get_or positions i 0) (linked_at N n t i)

-- a queue of a walk isn't empty, and its next step needs a symbol
abbrev pub asks_at : Walk → Bool
asks_at w = asks w (head w)
