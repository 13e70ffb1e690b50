-- What one pass over the darts tells: nothing breaks 6, 7 or 8. All links of a dart are neighbours, so each is looked at once.
use Rattle.std.specs.Prelude.{ℕ, suc, ◌-◌, List, Bool, ◌&&◌, ◌||◌, eqb, ltb}
use Rattle.rules.specs.Lists.{all_below}
use Rattle.rules.specs.Map.{by_dart, link}

-- aj(ai(d)) = ai(aj(d)), asked where ai(d) is no lower dart
unfoldable pub commutes_at : ℕ → ℕ → List ℕ → ℕ → ℕ → ℕ → Bool
commutes_at N n t j d i =
    let y = link by_dart N n t i d in
    ltb y d || eqb (link by_dart N n t j y) (link by_dart N n t i (link by_dart N n t j d))

-- aj(d) is a dart and leads back; where it is no lower dart, it goes with ai(d) for each i <= j-2
unfoldable pub sound_link : ℕ → ℕ → List ℕ → ℕ → ℕ → Bool
sound_link N n t d j =
    let x = link by_dart N n t j d in
    ltb x n && eqb (link by_dart N n t j x) d && (ltb x d || all_below (j - 1) (commutes_at N n t j d))

-- each link of dart d
unfoldable pub sound_dart : ℕ → ℕ → List ℕ → ℕ → Bool
sound_dart N n t d = all_below (suc N) (sound_link N n t d)
