-- Where a reading may begin.
use Rattle.std.specs.Prelude.{ℕ, ◌<◌, ◌≡◌, List, length, get_or, eqb}
use Rattle.shapes.specs.Text.{commented}

-- no comment goes on at p
pub record Fresh (t : List ℕ) (p : ℕ) : Type 0 where
  pub plain : p < length t → commented t p ≡ eqb (get_or t p 0) 35
