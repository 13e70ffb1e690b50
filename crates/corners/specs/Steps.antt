-- The corners of a text one by one: a step gives a corner's side and leads to the next.
use Rattle.std.specs.Prelude.{ℕ, zero, suc, ◌-◌, List, Bool, true, false, eqb, leb}
use Rattle.shapes.specs.Text.{number, line_end}
use Rattle.text.specs.Leaves.{Got, known_of}
use Rattle.corners.specs.declared.Position.{Position}
use Rattle.corners.specs.declared.Step.{Step}

-- a position among the corners, its place as a number
pub record Spot : Type 0 where
  pub at : ℕ
  pub left : ℕ
  pub first : ℕ
  pub own : ℕ

-- that of a position
abbrev pub spot : Position → Spot
spot c = record { at = c.place.at; left = c.left; first = c.first; own = c.own }

-- what is said of a text and a spot, said of a position
abbrev pub of {ℓ} : {A : Type ℓ} → (List ℕ → Spot → A) → Position → A
of f c = f c.place.text.now (spot c)

-- a corner's side and the next spot
pub record Turn : Type 0 where
  pub own : ℕ
  pub far : ℕ
  pub left : ℕ
  pub next : Spot

-- those of a step
abbrev pub turned : Step → Turn
turned s = record { own = s.own; far = s.far; left = s.left; next = spot s.next }

-- the number at p, and the position after it
abbrev pub known : List ℕ → ℕ → Got
known t p = known_of (number t p)

-- a face begins at p
unfoldable pub begun : ℕ → Spot
begun p = record { at = p; left = 0; first = 0; own = 0 }

-- with the face begun: its count and first vertex are read
unfoldable pub opened_by : Bool → List ℕ → Spot → Spot
opened_by false t c = c
opened_by true t c =
    let k = known t c.at in
    let v = known t k.after in
    record { at = v.after; left = k.value; first = v.value; own = v.value }

unfoldable pub opened_of : List ℕ → Spot → Spot
opened_of t c = opened_by (eqb c.left 0) t c

-- the side of an open corner, and the next position: the last one's side goes to the first
unfoldable pub step_by : Bool → List ℕ → Spot → Turn
step_by true t o = record { own = o.own; far = o.first; left = 1; next = begun (line_end t o.at) }
step_by false t o =
    let v = known t o.at in
    record { own = o.own; far = v.value; left = o.left; next = record { at = v.after; left = o.left - 1; first = o.first; own = v.value } }

unfoldable pub step_of : List ℕ → Spot → Turn
step_of t c = let o = opened_of t c in step_by (leb o.left 1) t o

-- the position after k corners from c on
unfoldable pub position_after : List ℕ → ℕ → Spot → Spot
position_after t zero c = c
position_after t (suc k) c = position_after t k (step_of t c).next

-- the step at the k-th corner from c on
unfoldable pub step_at : List ℕ → Spot → ℕ → Turn
step_at t c k = step_of t (position_after t k c)

-- the k-th corner from c on is the last of its face
unfoldable pub last_at : List ℕ → Spot → ℕ → Bool
last_at t c k = leb (step_at t c k).left 1
