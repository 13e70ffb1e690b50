-- What the table of sides holds: a key for each side, a tree to find the first corner that has a key, and each corner's twin.
use Rattle.std.specs.Prelude.{ℕ, suc, ◌+◌, ◌*◌, ◌-◌, ◌/◌, ◌%◌, ◌≤◌, ◌<◌, ◌≡◌, ◌≢◌, List, Bool, true, false, cond, length}
use Rattle.std.specs.Prelude.{get_or, eqb, ltb, leb, Result, Ok, Err}
use Rattle.rules.specs.Lists.{count_below}
use Rattle.corners.specs.Steps.{Spot, step_at}

-- a side's two vertices as one number, the same for both directions
unfoldable pub key_of : ℕ → ℕ → ℕ
key_of u v = cond (ltb v u) (u * 4294967296 + v) (v * 4294967296 + u)

-- the key of the j-th corner from c on
unfoldable pub key_at : List ℕ → Spot → ℕ → ℕ
key_at t c j = let s = step_at t c j in key_of s.own s.far

-- of corners with these keys, two before corner x have its key
unfoldable pub third_use : (ℕ → ℕ) → ℕ → Bool
third_use keys x = leb 2 (count_below x (λ e. eqb (keys x) (keys e)))

-- the place below corner k by the bits that are left of a key
unfoldable pub kid : ℕ → ℕ → ℕ
kid k rest = 4096 + 4 * k + (rest % 2 * 2 + rest / 4294967296 % 2)

-- one more than the corner whose place this is, 0 for a place to begin at
unfoldable pub owner_of : ℕ → ℕ
owner_of at = cond (ltb at 4096) 0 ((at - 4096) / 4 + 1)

-- a tree of corners below n, each below an older one
pub record Grown (tree : List ℕ) (n : ℕ) : Type 0 where
  pub few : n ≤ 2048
  pub below : (at : ℕ) → get_or tree at 0 ≤ n
  pub newer : (at k : ℕ) → get_or tree at 0 ≡ suc k → owner_of at ≤ k

-- a search for a key from a place on, and where it ends: at the corner that has it, or at a free place
pub data Path (tree keys : List ℕ) (key : ℕ) : (rest at : ℕ) → Result ℕ ℕ → Type 0 where
  free : {rest at : ℕ} → get_or tree at 0 ≡ 0 → Path tree keys key rest at (Err at)
  found : {rest at : ℕ} (k : ℕ) → get_or tree at 0 ≡ suc k → get_or keys k 0 ≡ key → Path tree keys key rest at (Ok k)
  onward : {rest at : ℕ} {r : Result ℕ ℕ} (k : ℕ) → get_or tree at 0 ≡ suc k → get_or keys k 0 ≢ key → Path tree keys key (rest / 2) (kid k rest) r
      → Path tree keys key rest at r

-- the search for a key comes to a place after so many corners with other keys, and so much of the key is left
pub data Way (tree : List ℕ) (key : ℕ) : (passed rest at : ℕ) → Type 0 where
  begins : Way tree key 0 key (key % 4093)
  goes : {j rest at : ℕ} (k : ℕ) → Way tree key j rest at → get_or tree at 0 ≡ suc k → Way tree key (suc j) (rest / 2) (kid k rest)

-- each corner of the tree has one place, and the search for its key comes there
pub record Sown (tree keys : List ℕ) : Type 0 where
  pub once : (a b k : ℕ) → get_or tree a 0 ≡ suc k → get_or tree b 0 ≡ suc k → a ≡ b
  pub comes : (a k : ℕ) → get_or tree a 0 ≡ suc k → (j : ℕ) × (rest : ℕ) × Way tree (get_or keys k 0) j rest a

-- of the first j corners, w tells of another one with the key of corner y: 65535 for none, and it itself where it is below 2048
pub data Twin (kf : ℕ → ℕ) (j y : ℕ) : ℕ → Type 0 where
  alone : ((z : ℕ) → z < j → kf z ≡ kf y → z ≡ y) → Twin kf j y 65535
  paired : (z w : ℕ) → w < 65535 → z < j → z ≢ y → kf z ≡ kf y → (z < 2048 → w ≡ z) → Twin kf j y w

-- m corners with these keys are in the table, and j were met, none of which uses a side of the m a third time
pub record Swept (tree keys twins : List ℕ) (kf : ℕ → ℕ) (m j : ℕ) : Type 0 where
  pub met : m ≤ j
  pub tree12288 : length tree ≡ 12288
  pub keys2048 : length keys ≡ 2048
  pub twins2048 : length twins ≡ 2048
  pub grown : Grown tree m
  pub sown : Sown tree keys
  pub keyed : (y : ℕ) → y < m → get_or keys y 0 ≡ kf y
  pub leads : (y : ℕ) → y < m → ((z : ℕ) → z < y → kf z ≢ kf y) → Path tree keys (kf y) (kf y) (kf y % 4093) (Ok y)
  pub twinned : (y : ℕ) → y < m → Twin kf j y (get_or twins y 0)
  pub clear : (x a b : ℕ) → x < j → a < m → a < x → b < x → kf a ≡ kf x → kf b ≡ kf x → a ≡ b

-- two corners before x have its key, the first of them below m
pub record Third (kf : ℕ → ℕ) (m x : ℕ) : Type 0 where
  pub one : ℕ
  pub other : ℕ
  pub led : one < m
  pub apart : one ≢ other
  pub before : (one < x) × (other < x)
  pub alike : (kf one ≡ kf x) × (kf other ≡ kf x)

-- corner i with its key is entered, for any keys that the table is swept for
pub record Enters (tree keys twins tree' keys' twins' : List ℕ) (i key : ℕ) (r : Bool) : Type 0 where
  pub passes : (kf : ℕ → ℕ) → kf i ≡ key → Swept tree keys twins kf i i → r ≡ false → Swept tree' keys' twins' kf (i + 1) (i + 1)
  pub thirds : (kf : ℕ → ℕ) → kf i ≡ key → Swept tree keys twins kf i i → r ≡ true → Third kf i i

-- a corner past the block with its key is met
pub record Meets (tree keys twins twins' : List ℕ) (key : ℕ) (r : Bool) : Type 0 where
  pub passes : (kf : ℕ → ℕ) (m j : ℕ) → kf j ≡ key → Swept tree keys twins kf m j → 2048 ≤ j → r ≡ false → Swept tree keys twins' kf m (j + 1)
  pub thirds : (kf : ℕ → ℕ) (m j : ℕ) → kf j ≡ key → Swept tree keys twins kf m j → r ≡ true → Third kf m j

-- of n corners r is the first that uses a side of the first m a third time, or n
pub record Stops (kf : ℕ → ℕ) (m n r : ℕ) : Type 0 where
  pub most : r ≤ n
  pub clear : (x a b : ℕ) → x < r → a < m → a < x → b < x → kf a ≡ kf x → kf b ≡ kf x → a ≡ b
  pub third : r < n → Third kf m r

-- count corners from c on are met past the j that a table is swept for, up to r of them
pub record GoesOn (t : List ℕ) (c : Spot) (tree keys twins : List ℕ) (count r : ℕ) : Type 0 where
  pub most : r ≤ count
  pub stops : (kf : ℕ → ℕ) (m j : ℕ) → ((x : ℕ) → kf (j + x) ≡ key_at t c x) → Swept tree keys twins kf m j → 2048 ≤ j → Stops kf m (j + count) (j + r)

-- what is kept of the first corners from c on, for the map
pub record Kept (t : List ℕ) (c : Spot) (twins owns lefts : List ℕ) (count : ℕ) : Type 0 where
  pub own : (j : ℕ) → j < count → get_or owns j 0 ≡ (step_at t c j).own
  pub left : (j : ℕ) → j < count → get_or lefts j 0 ≡ (step_at t c j).left
  pub twin : (j : ℕ) → j < count → Twin (key_at t c) count j (get_or twins j 0)
