-- What is said of N, n and tables, said of a lent map.
use Rattle.std.specs.Prelude.{ℕ, List}
use Rattle.tables.specs.declared.map.Map.{Map}

-- of its N, its n and its tables
abbrev pub of {ℓ} : {A : Type ℓ} → (ℕ → ℕ → List ℕ → A) → Map → A
of f m = f m.dim m.darts m.tables.now
