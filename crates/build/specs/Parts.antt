-- What the room kept of the corners holds, and the six links of a corner.
use Rattle.std.specs.Prelude.{ℕ, ◌+◌, ◌*◌, ◌≤◌, ◌<◌, ◌≡◌, List, cond, false, length, get_or, set, eqb, ltb, leb}
use Rattle.rules.specs.Map.{by_dart, mark}
use Rattle.shapes.specs.Faces.{all_corners, corner_at, some, poor, twin, map_on}
use Rattle.build.specs.declared.Joined.{Joined}

-- a2 of corner k's own dart and of its far one: free, or the twin's dart at the same vertex
unfoldable pub joined_at : List ℕ → List ℕ → ℕ → Joined
joined_at owns twins k =
    let e = get_or twins k 0 in
    cond (leb 2048 e) (record { own = 2 * k; far = 2 * k + 1 })
    (cond (eqb (get_or owns e 0) (get_or owns k 0)) (record { own = 2 * e; far = 2 * e + 1 }) (record { own = 2 * e + 1; far = 2 * e }))

-- the six links of corner k
unfoldable pub six_put : List ℕ → ℕ → ℕ → ℕ → Joined → List ℕ
six_put t k before after e =
    let own = set (set (set t (6 * k) (2 * k + 1)) (6 * k + 1) (2 * before + 1)) (6 * k + 2) e.own in
    set (set (set own (6 * k + 3) (2 * k)) (6 * k + 4) (2 * after)) (6 * k + 5) e.far

-- so many corners of its face are left with each corner: itself at least, and no more than there are corners
pub record Lefts (lefts : List ℕ) (corners : ℕ) : Type 0 where
  pub few : corners ≤ 2048
  pub some : (c : ℕ) → c < corners → 1 ≤ get_or lefts c 0
  pub within : (c : ℕ) → c < corners → c + get_or lefts c 0 ≤ corners

-- what is kept of the corners of these faces, none of which is poor
pub record Holds (fs : List (List ℕ)) (twins owns lefts : List ℕ) : Type 0 where
  pub rich : some poor fs ≡ false
  pub own : (c : ℕ) → c < length (all_corners 0 fs) → get_or owns c 0 ≡ (corner_at (all_corners 0 fs) c).own
  pub left : (c : ℕ) → c < length (all_corners 0 fs) → get_or lefts c 0 ≡ (corner_at (all_corners 0 fs) c).left
  pub twin : (c : ℕ) → c < length (all_corners 0 fs)
      → get_or twins c 0 ≡ cond (ltb (twin (all_corners 0 fs) c) (length (all_corners 0 fs))) (twin (all_corners 0 fs) c) mark

-- the tables then hold the map of the faces, for any faces that so much is kept of
pub record Builds (twins owns lefts : List ℕ) (corners : ℕ) (t t' : List ℕ) : Type 0 where
  pub long : length t' ≡ length t
  pub is : (fs : List (List ℕ)) → Holds fs twins owns lefts → length (all_corners 0 fs) ≡ corners → t' ≡ map_on by_dart (all_corners 0 fs) t
