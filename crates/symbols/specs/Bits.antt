-- What is said of a cursor and a page, said of the bits at hand.
use Rattle.std.specs.Prelude.{ℕ, List}
use Rattle.symbols.specs.declared.Cursor.{Cursor}
use Rattle.symbols.specs.declared.bits.Bits.{Bits}

-- of their cursor and their page
abbrev pub of {ℓ} : {A : Type ℓ} → (Cursor → List ℕ → A) → Bits → A
of f b = f b.cursor b.page.now
