-- What is told of the hand that a symbol is taken out of: how the symbol begins in it, and a byte more.
use Rattle.std.specs.Prelude.{ℕ, ◌+◌, ◌≤◌, ◌≡◌, List, min, Result, Ok, Err}
use Rattle.symbols.specs.declared.Cursor.{Cursor}
use Rattle.symbols.specs.declared.Short.{Short}
use Rattle.symbols.specs.declared.opened.Opened.{Opened}
use Rattle.symbols.specs.Cursors.{SymbolTaken}
use Rattle.symbols.specs.Hands.{Reads, Grown}

-- a hand of k bits, or of as many as a byte more gives, over the same page, or the symbol is short
unfoldable pub AtLeast : ℕ → Opened → Result Opened Short → Type 0
AtLeast k h (Err s) = (c : Cursor) → Reads c h.hand h.page.now → SymbolTaken (Err s) c h.page.now
AtLeast k h (Ok g) = Grown h.hand g.hand h.page.now × (min k (h.hand.bits + 8) ≤ g.hand.bits) × (g.page.now ≡ h.page.now)

-- how a symbol begins: in a hand over the page, or it is short
unfoldable pub Opens : Result Opened Short → Cursor → List ℕ → Type 0
Opens (Err s) c page = SymbolTaken (Err s) c page
Opens (Ok h) c page = Reads c h.hand page × (h.page.now ≡ page)
