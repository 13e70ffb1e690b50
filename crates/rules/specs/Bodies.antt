-- Document 02, E6, "Several separate bodies in one feed": the two forms, what the first four bits say of them, how many bodies may be begun, and the numbers
-- that refuse a count of bodies. How a body is begun is said where the walk is, in Walk.
use Rattle.std.specs.Prelude.{ℕ, ◌+◌, ◌%◌, ◌<◌, List, Bool, true, false, not, ◌&&◌, ◌||◌, cond, eqb, ltb, leb}
use Rattle.rules.specs.declared.Form.{Form}
use Rattle.rules.specs.declared.Form.TheVariants.{One, Several}
use Rattle.rules.specs.Map.{Layout, Reached, all_ranks, Connected}

-- a stream of this form has several bodies
unfoldable pub several : Form → Bool
several One = false
several Several = true

-- the first four bits: N, or 8+N
unfoldable pub first_bits : Form → ℕ → ℕ
first_bits One N = N
first_bits Several N = 8 + N

-- the form that they say
unfoldable pub form_of : ℕ → Form
form_of v = cond (ltb v 8) One Several

-- the N that they say
unfoldable pub dim_of : ℕ → ℕ
dim_of v = v % 8

-- a walk's end without the bodies of its form: 15 darts left, 30 only one body found
unfoldable pub end_number : Form → ℕ
end_number One = 15
end_number Several = 30

-- 1 to count, exactly 1 in the one-body form
unfoldable pub bodies_fit : Form → ℕ → ℕ → Bool
bodies_fit F bodies count = leb 1 bodies && leb bodies count && (several F || eqb bodies 1)

-- one-body and 0, as at opening and when refused
unfoldable pub no_bodies : Form → ℕ → Bool
no_bodies F bodies = not (several F) && eqb bodies 0

-- at least two bodies: some dart is not reached from the root, which is a dart
pub record Apart (Y : Layout) (N n : ℕ) (t : List ℕ) (root : ℕ) : Type 0 where
  pub rooted : root < n
  pub other : ℕ
  pub dart : other < n
  pub unreached : Reached Y all_ranks N n t root other → ⊥

-- the bodies that a form wants: one, that of the root, or at least two
abbrev pub Wanted : Form → Layout → ℕ → ℕ → List ℕ → ℕ → Type 0
Wanted One Y N n t root = Connected Y N n t root
Wanted Several Y N n t root = Apart Y N n t root
