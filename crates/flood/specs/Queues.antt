-- What is said of a queue as it was and as it is afterwards.
use Rattle.std.specs.Prelude.{ℕ, ◌≡◌, Bool, List}
use Rattle.tables.specs.declared.map.Map.{Map}
use Rattle.tables.specs.Maps.{of}
use Rattle.flood.specs.declared.Queue.{Queue}
use Rattle.flood.specs.Flood.{Flooding}

-- of as many darts, over the same lent room
abbrev pub Same : Queue → Queue → Type 0
Same q r = (r.darts ≡ q.darts) × (r.work.ghost_name ≡ q.work.ghost_name)

-- of its length and its room before and after
abbrev pub grown {ℓ} : {A : Type ℓ} → (ℕ → ℕ → List ℕ → List ℕ → A) → Queue → Queue → A
grown f q r = f q.tail r.tail q.work.now r.work.now

-- a flood is on its way, of which q is the queue once its start has come up: r is explored from the start's place up to the head
abbrev pub Flows : (ℕ → Bool) → Map → ℕ → ℕ → ℕ → ℕ → Queue → Queue → Type 0
Flows keep m start class from head q r = of (Flooding keep) m start class from q.tail head r.tail q.work.now r.work.now
